-- A word that is 0 marks no slot.
use borrow.Author.Rules.{rules}
use Prim.Native.Nat.{ℕ, ◌≤◌, ◌-◌, ◌+◌, ◌%◌}
use mathlib.Core.Path.{ap, ◌∙◌}
use native.Mathlib.Nat.{le_of_lt}
use native.Mathlib.Omega.{arith}
use lib.Dec.{lit<}
use Rattle.changes.specs.vocabulary.Bits.{bit, marks_in}
use Rattle.changes.specs.vocabulary.Marks.{NoneMarked}
use Rattle.changes.proofs.BitLaws.{mark-with, bit-none}
use Rattle.changes.proofs.Renumber.{rank-run}
use Rattle.changes.proofs.renumbering.ranks_word.Goals as goal

pub ranks_run-requires : goal.ranks_run-requires
ranks_run-requires c =
    (le_of_lt c.requires.word.after, c.requires.sizes.0, c.requires.sizes.1, c.requires.sizes.2)

pub overflow_sub-result : goal.overflow_sub-result
overflow_sub-result c = le_of_lt c.requires.word.after

pub overflow_add-result : goal.overflow_add-result
overflow_add-result c =
    let few : c.args.start + (c.args.end - c.args.from) ≤ 2049 = omega (arith, c.requires.sizes, c.requires.word.after) in
    search rules

pub returns-then-marks-from-eq0 : goal.returns-then-marks-from-eq0
returns-then-marks-from-eq0 c =
    let called = c.ranks_run in
    let a = c.args in
    let marks = a.marks.now in
    let none : NoneMarked (marks_in marks) a.from a.end =
    λ i h k.
    mark-with 64 (lit< tt) marks a.from i (c.requires.word.same i h k)
    ∙ ap (λ (w : ℕ). bit w (i % 64)) c.if-marks-from-eq0.true
    ∙ bit-none (i % 64) in
    record { within = omega (arith, c.requires.sizes.1, c.requires.word.after); ranked = (λ p. rank-run (marks_in marks) a.to.now called.new.to a.from a.end a.start (le_of_lt c.requires.word.after) none called.ensures p) }

pub ranks_each-requires : goal.ranks_each-requires
ranks_each-requires c = record { sizes = c.requires.sizes; word = c.requires.word }

pub returns : goal.returns
returns c = record { within = c.ranks_each.ensures.within; ranked = c.ranks_each.ensures.ranked }
