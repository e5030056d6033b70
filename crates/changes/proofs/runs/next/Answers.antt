-- In the rest of the first word, or in a later one.
use borrow.Author.Rules.{rules}
use Prim.Native.Nat.{ℕ, ◌+◌, ◌*◌, ◌/◌, ◌%◌, ◌^◌, ◌<◌, min}
use mathlib.Core.Path.{◌≡◌, sym, subst}
use native.Mathlib.Nat.{lt_of_le_of_lt, le_refl, div-add-mod'}
use native.Mathlib.Omega.{arith}
use lib.Count.{count_trailing_zeros, trailing_le}
use lib.Dec.{lit<}
use lib.Pow.{shr_le}
use Rattle.changes.specs.vocabulary.Bits.{marks_in}
use Rattle.changes.specs.vocabulary.Marks.{Passes, EndsAt}
use Rattle.changes.proofs.BitLaws.{bit_shifted}
use Rattle.changes.proofs.NextSlot.{none-there, found}
use Rattle.changes.proofs.runs.next.Goals as goal

pub returns-then-from-count : goal.returns-then-from-count
returns-then-from-count c =
    record {
      after = c.requires.0;
      within = le_refl c.args.count;
      passed = λ i a b. absurd (omega (arith, c.if-from-count.true));
      stops = λ h. absurd (omega arith);
    }

pub bounds-marks-from : goal.bounds-marks-from
bounds-marks-from c = let h : c.args.from < c.args.count = omega (arith, c.if-from-count.false, c.requires.0) in search rules

pub overflow_cast-rest : goal.overflow_cast-rest
overflow_cast-rest c = record { fits = lt_of_le_of_lt (trailing_le 64 _) (lit< tt) }

pub overflow_add-from : goal.overflow_add-from
overflow_add-from c =
    let few = trailing_le 64 (c.word_of.result / 2 ^ (c.args.from % 64)) in
    record { fits = lt_of_le_of_lt (omega (arith, few, c.requires.0, c.requires.1)) (lit< {m = 1088} tt) }

pub returns-then-rest-ne0 : goal.returns-then-rest-ne0
returns-then-rest-ne0 c =
    let w = c.word_of in
    let marks = c.args.marks.now in
    let m = c.args.marked in
    let from : ℕ = c.args.from in
    let rest : ℕ = w.result / 2 ^ (from % 64) in
    let some : 0 < rest = omega (arith, c.if-rest-ne0.true) in
    let split : from / 64 * 64 + from % 64 ≡ from = div-add-mod' from 64 in
    subst (λ (r : ℕ). EndsAt (marks_in marks) m from c.args.count r) (sym c.min.ensures)
    (subst (λ (i : ℕ). EndsAt (marks_in marks) m i c.args.count (min (i + count_trailing_zeros 64 rest) c.args.count)) split
    (found 64 marks m (from / 64) (from % 64) w.result rest w.ensures.within w.ensures.bits (λ k. bit_shifted w.result (from % 64) k) some
    (lt_of_le_of_lt (shr_le w.result (from % 64)) w.ensures.within) c.args.count (omega (arith, c.requires.0))))

pub next_in_words-requires : goal.next_in_words-requires
next_in_words-requires c =
    let h : c.args.from < c.args.count = omega (arith, c.if-from-count.false, c.requires.0) in
    search rules

pub returns : goal.returns
returns c =
    let w = c.word_of in
    let marks = c.args.marks.now in
    let m = c.args.marked in
    let from : ℕ = c.args.from in
    let rest : ℕ = w.result / 2 ^ (from % 64) in
    let split : from / 64 * 64 + from % 64 ≡ from = div-add-mod' from 64 in
    c.next_in_words.ensures from (omega arith) (omega (arith, c.requires.0))
    (subst (λ (i : ℕ). Passes (marks_in marks) m i ((from / 64 + 1) * 64)) split
    (none-there 64 marks m (from / 64) (from % 64) w.result rest w.ensures.within w.ensures.bits (λ k. bit_shifted w.result (from % 64) k) c.if-rest-ne0.false))
