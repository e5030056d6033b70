use borrow.Author.Rules.{rules}
use native.Mathlib.Omega.{arith}
use mathlib.Core.Bool.{◌||◌}
use mathlib.Core.Path.{◌≡◌, sym, ◌∙◌}
use lib.ListN.{length, take, length-map}
use Rattle.rows.specs.vocabulary.Sizes.{ITEMS}
use Rattle.changes.specs.vocabulary.Bits.{marks_in}
use Rattle.closing.specs.vocabulary.Lists.{among, items_back}
use Rattle.closing.proofs.ListsBack.{back_start, back_count, back-marks, back-turn, back_end}
use Rattle.closing.proofs.lists.items_back.Goals as goal

pub loop-e-init : goal.loop-e-init
loop-e-init c =
    let a = c.args in
    (c.requires.0, (λ st b rep count few m. back_start b a.v.asker st a.t.now (marks_in a.out.now) rep m))

pub loop-e-preserved : goal.loop-e-preserved
loop-e-preserved c =
    let called = c.item_back in
    let l = c.loop-e in
    let v = c.args.v in
    let done = take l.e-index v.items in
    let four : length v.items ≡ ITEMS = sym (length-map v.items (λ x. x)) ∙ (let long : _ = search rules in long) in (
      called.ensures.long,
      (λ st b rep count few m.
          let w = l.invariant.1 st b rep count few m in
          back-turn b v.asker st v.items l.e-index (omega (arith, c.loop-e-test.true)) called.new.t (marks_in called.new.out)
          (called.ensures.back (items_back b v.asker done st) (λ n. b n || among done n) w.represents
          (back_count b v.asker st done c.args.n count) few (back-marks b v.asker st done l.t (marks_in l.out) w))),
    )

pub returns : goal.returns
returns c =
    let l = c.loop-e in
    let v = c.args.v in
    let four : length v.items ≡ ITEMS = sym (length-map v.items (λ x. x)) ∙ (let long : _ = search rules in long) in record {
      back = (λ st b rep count few m.
          back_end b v.asker st v.items l.e-index (omega (arith, c.loop-e-test.false)) l.t (marks_in l.out) (l.invariant.1 st b rep count few m));
      long = l.invariant.0;
    }
