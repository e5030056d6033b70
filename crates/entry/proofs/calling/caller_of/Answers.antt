-- `calling::caller_of` meets its contract: an arm a call.
use mathlib.Core.Path.{ap, sym}
use Rattle.calls.specs.Calls.{caller_of}
use Rattle.entry.proofs.calling.caller_of.Goals as goal

pub returns-in-Go : goal.returns-in-Go
unfolding caller_of
returns-in-Go c = sym (ap caller_of c.in-Go.is)

pub returns-in-Hold : goal.returns-in-Hold
unfolding caller_of
returns-in-Hold c = sym (ap caller_of c.in-Hold.is)

pub returns-in-Register : goal.returns-in-Register
unfolding caller_of
returns-in-Register c = sym (ap caller_of c.in-Register.is)

pub returns-in-Drop : goal.returns-in-Drop
unfolding caller_of
returns-in-Drop c = sym (ap caller_of c.in-Drop.is)

pub returns-in-Port : goal.returns-in-Port
unfolding caller_of
returns-in-Port c = sym (ap caller_of c.in-Port.is)

pub returns-in-Close : goal.returns-in-Close
unfolding caller_of
returns-in-Close c = sym (ap caller_of c.in-Close.is)

pub returns-in-Ask : goal.returns-in-Ask
unfolding caller_of
returns-in-Ask c = sym (ap caller_of c.in-Ask.is)

pub returns-in-Fetch : goal.returns-in-Fetch
unfolding caller_of
returns-in-Fetch c = sym (ap caller_of c.in-Fetch.is)

pub returns-in-Answer : goal.returns-in-Answer
unfolding caller_of
returns-in-Answer c = sym (ap caller_of c.in-Answer.is)

pub returns-in-Revoke : goal.returns-in-Revoke
unfolding caller_of
returns-in-Revoke c = sym (ap caller_of c.in-Revoke.is)

pub returns-in-Comes : goal.returns-in-Comes
unfolding caller_of
returns-in-Comes c = sym (ap caller_of c.in-Comes.is)

pub returns-in-Chain : goal.returns-in-Chain
unfolding caller_of
returns-in-Chain c = sym (ap caller_of c.in-Chain.is)

pub returns-in-ComesAll : goal.returns-in-ComesAll
unfolding caller_of
returns-in-ComesAll c = sym (ap caller_of c.in-ComesAll.is)
