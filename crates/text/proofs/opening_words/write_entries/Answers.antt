use native.Mathlib.Omega.{arith}
use mathlib.Core.Path.{◌≡◌, refl, ap, sym}
use Rattle.rows.specs.declared.Row.{Row}
use Rattle.text.specs.Opening.{entry_row}
use Rattle.text.proofs.WrittenLaws.{writing-starts, writing-stops, writing-missing, writing-room, writing-goes-on, writing-ends}
use Rattle.text.proofs.opening_words.write_entries.Goals as goal

pub loop-k-init : goal.loop-k-init
loop-k-init c = let a = c.args in (omega arith, c.requires.0, writing-starts a.g a.t.now a.line.now a.at a.node a.rows)

pub returns-in_default : goal.returns-in_default
returns-in_default c =
    let l = c.loop-k in
    let k = writing-stops l.invariant.2 (sym c.in_default.ensures) in
    record { named = k.0; written = k.1; long = l.invariant.1 }

pub returns-then-not-entry_listed : goal.returns-then-not-entry_listed
returns-then-not-entry_listed c =
    let named = c.entry_listed in
    let l = c.loop-k in
    let a = c.args in
    let none = writing-missing l.invariant.2 c.in-Some.entry c.in-Some.next (sym c.in-Some.ensures) (omega arith) named.result named.ensures c.if-not-entry_listed.true in
    record { named = none; written = λ h. absurd (h refl); long = l.invariant.1 }

pub overflow_add-n : goal.overflow_add-n
overflow_add-n c =
    let l = c.loop-k in
    let a = c.args in
    let room = writing-room l.invariant.2 c.in-Some.entry c.in-Some.next (sym c.in-Some.ensures) (omega arith) in
    omega (arith, c.requires.1)

pub overflow_cast-n : goal.overflow_cast-n
overflow_cast-n c =
    let l = c.loop-k in
    let a = c.args in
    let room = writing-room l.invariant.2 c.in-Some.entry c.in-Some.next (sym c.in-Some.ensures) (omega arith) in
    omega (arith, c.requires.1)

pub append_row-requires : goal.append_row-requires
unfolding entry_row
append_row-requires c =
    let row = c.entry_row-row in
    let l = c.loop-k in
    let a = c.args in
    let room = writing-room l.invariant.2 c.in-Some.entry c.in-Some.next (sym c.in-Some.ensures) (omega arith) in
    let source : row.result.source ≡ 0 = ap (λ (r : Row). r.source) row.ensures in
    let via : row.result.via ≡ 0 = ap (λ (r : Row). r.via) row.ensures in
    (l.invariant.1, omega (arith, c.requires.1), omega arith, omega arith)

pub loop-k-preserved : goal.loop-k-preserved
loop-k-preserved c =
    let adds = c.append_row in
    let row = c.entry_row-row in
    let named = c.entry_listed in
    let l = c.loop-k in
    let a = c.args in
    let goes = writing-goes-on l.invariant.2 c.in-Some.entry c.in-Some.next (sym c.in-Some.ensures) (omega arith) named.result named.ensures c.if-not-entry_listed.false _ row.result row.ensures adds.ensures.represents in
    (omega arith, adds.ensures.long, goes)

pub returns : goal.returns
returns c =
    let l = c.loop-k in
    let a = c.args in
    let k = writing-ends l.invariant.2 (omega arith) in
    record { named = k.0; written = k.1; long = l.invariant.1 }
