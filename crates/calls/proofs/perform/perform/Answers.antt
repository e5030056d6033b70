-- `perform::perform`: an arm a call; each gives what its own function does.
use mathlib.Core.Path.{subst}
use Rattle.calls.specs.vocabulary.Performs.{CallerInRange}
use Rattle.calls.proofs.Carried.{carried}
use Rattle.calls.proofs.perform.perform.Goals as goal

pub go-requires : goal.go-requires
unfolding CallerInRange
go-requires c =
    let pre = c.requires in
    (pre.0, pre.1, subst CallerInRange c.in-Go.is pre.2)

pub hold-requires : goal.hold-requires
unfolding CallerInRange
hold-requires c =
    let pre = c.requires in
    (pre.0, pre.1, subst CallerInRange c.in-Hold.is pre.2)

pub register-requires : goal.register-requires
unfolding CallerInRange
register-requires c =
    let pre = c.requires in
    (pre.0, pre.1, subst CallerInRange c.in-Register.is pre.2)

pub drop-requires : goal.drop-requires
unfolding CallerInRange
drop-requires c =
    let pre = c.requires in
    (pre.0, pre.1, subst CallerInRange c.in-Drop.is pre.2)

pub port-requires : goal.port-requires
unfolding CallerInRange
port-requires c =
    let pre = c.requires in
    (pre.0, subst CallerInRange c.in-Port.is pre.2)

pub close-requires : goal.close-requires
unfolding CallerInRange
close-requires c =
    let pre = c.requires in
    (pre.0, pre.1, subst CallerInRange c.in-Close.is pre.2)

pub ask-requires : goal.ask-requires
unfolding CallerInRange
ask-requires c =
    let pre = c.requires in
    (pre.0, subst CallerInRange c.in-Ask.is pre.2)

pub fetch-requires : goal.fetch-requires
unfolding CallerInRange
fetch-requires c =
    let pre = c.requires in
    (pre.0, subst CallerInRange c.in-Fetch.is pre.2)

pub answer-requires : goal.answer-requires
unfolding CallerInRange
answer-requires c =
    let pre = c.requires in
    (pre.0, pre.1, subst CallerInRange c.in-Answer.is pre.2)

pub revoke-requires : goal.revoke-requires
unfolding CallerInRange
revoke-requires c =
    let pre = c.requires in
    (pre.0, pre.1, subst CallerInRange c.in-Revoke.is pre.2)

pub returns-in-Go : goal.returns-in-Go
returns-in-Go c =
    let done = c.go in
    let pre = c.requires in
    let a = c.args in let it = carried a.t.now a.t.now a.ps.now done.new.ps done.result pre.1 (pre.0, done.ensures.long) a.c _ c.in-Go.is done.ensures.performs in record { performs = it.0; stays = it.1.0; long = it.1.1 }

pub returns-in-Hold : goal.returns-in-Hold
returns-in-Hold c =
    let done = c.hold in
    let pre = c.requires in
    let a = c.args in let it = carried a.t.now done.new.t a.ps.now a.ps.now done.result pre.1 (done.ensures.long, pre.1) a.c _ c.in-Hold.is done.ensures.performs in record { performs = it.0; stays = it.1.0; long = it.1.1 }

pub returns-in-Register : goal.returns-in-Register
returns-in-Register c =
    let done = c.register in
    let pre = c.requires in
    let a = c.args in let it = carried a.t.now done.new.t a.ps.now a.ps.now done.result pre.1 (done.ensures.long, pre.1) a.c _ c.in-Register.is done.ensures.performs in record { performs = it.0; stays = it.1.0; long = it.1.1 }

pub returns-in-Drop : goal.returns-in-Drop
returns-in-Drop c =
    let done = c.drop in
    let pre = c.requires in
    let a = c.args in let it = carried a.t.now done.new.t a.ps.now done.new.ps done.result pre.1 done.ensures.long a.c _ c.in-Drop.is done.ensures.performs in record { performs = it.0; stays = it.1.0; long = it.1.1 }

pub returns-in-Port : goal.returns-in-Port
returns-in-Port c =
    let done = c.port in
    let pre = c.requires in
    let a = c.args in let it = carried a.t.now done.new.t a.ps.now a.ps.now done.result pre.1 (done.ensures.long, pre.1) a.c _ c.in-Port.is (done.ensures.performs a.ps.now) in record { performs = it.0; stays = it.1.0; long = it.1.1 }

pub returns-in-Close : goal.returns-in-Close
returns-in-Close c =
    let done = c.close in
    let pre = c.requires in
    let a = c.args in let it = carried a.t.now done.new.t a.ps.now done.new.ps done.result pre.1 done.ensures.long a.c _ c.in-Close.is done.ensures.performs in record { performs = it.0; stays = it.1.0; long = it.1.1 }

pub returns-in-Ask : goal.returns-in-Ask
returns-in-Ask c =
    let done = c.ask in
    let pre = c.requires in
    let a = c.args in let it = carried a.t.now done.new.t a.ps.now a.ps.now done.result pre.1 (done.ensures.long, pre.1) a.c _ c.in-Ask.is (done.ensures.performs a.ps.now) in record { performs = it.0; stays = it.1.0; long = it.1.1 }

pub returns-in-Fetch : goal.returns-in-Fetch
returns-in-Fetch c =
    let done = c.fetch in
    let pre = c.requires in
    let a = c.args in let it = carried a.t.now done.new.t a.ps.now a.ps.now done.result pre.1 (done.ensures.long, pre.1) a.c _ c.in-Fetch.is (done.ensures.performs a.ps.now) in record { performs = it.0; stays = it.1.0; long = it.1.1 }

pub returns-in-Answer : goal.returns-in-Answer
returns-in-Answer c =
    let done = c.answer in
    let pre = c.requires in
    let a = c.args in let it = carried a.t.now done.new.t a.ps.now done.new.ps done.result pre.1 done.ensures.long a.c _ c.in-Answer.is done.ensures.performs in record { performs = it.0; stays = it.1.0; long = it.1.1 }

pub returns-in-Revoke : goal.returns-in-Revoke
returns-in-Revoke c =
    let done = c.revoke in
    let pre = c.requires in
    let a = c.args in let it = carried a.t.now done.new.t a.ps.now done.new.ps done.result pre.1 done.ensures.long a.c _ c.in-Revoke.is done.ensures.performs in record { performs = it.0; stays = it.1.0; long = it.1.1 }

pub returns-in-Comes : goal.returns-in-Comes
returns-in-Comes c =
    let done = c.comes in
    let pre = c.requires in
    let a = c.args in let it = carried a.t.now a.t.now a.ps.now a.ps.now done.result pre.1 (pre.0, pre.1) a.c _ c.in-Comes.is (done.ensures a.ps.now) in record { performs = it.0; stays = it.1.0; long = it.1.1 }

pub returns-in-Chain : goal.returns-in-Chain
returns-in-Chain c =
    let done = c.chain in
    let pre = c.requires in
    let a = c.args in let it = carried a.t.now a.t.now a.ps.now a.ps.now done.result pre.1 (pre.0, pre.1) a.c _ c.in-Chain.is (done.ensures a.ps.now) in record { performs = it.0; stays = it.1.0; long = it.1.1 }

pub returns-in-ComesAll : goal.returns-in-ComesAll
returns-in-ComesAll c =
    let done = c.comes_all in
    let pre = c.requires in
    let a = c.args in let it = carried a.t.now a.t.now a.ps.now a.ps.now done.result pre.1 (pre.0, pre.1) a.c _ c.in-ComesAll.is (done.ensures a.ps.now) in record { performs = it.0; stays = it.1.0; long = it.1.1 }
