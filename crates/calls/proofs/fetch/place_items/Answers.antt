use borrow.Author.Rules.{rules}
use native.Mathlib.Omega.{arith}
use mathlib.Core.Path.{◌≡◌, sym, ◌∙◌}
use lib.ListN.{length, drop, length-map}
use Rattle.calls.specs.vocabulary.Loans.{items_placed}
use Rattle.calls.proofs.Handed.{placed-count, placed-start, placed-turn, placed_end}
use Rattle.calls.proofs.fetch.place_items.Goals as goal

pub loop-k-init : goal.loop-k-init
loop-k-init c =
    let v = c.args.v in
    let four : length v.items ≡ 4 = sym (length-map v.items (λ x. x)) ∙ (let long : _ = search rules in long) in
    (search rules, c.requires.0, (λ st h. placed-start c.args.place v.items st c.args.t.now 4 (omega arith) h.0))

pub loop-k-preserved : goal.loop-k-preserved
loop-k-preserved c =
    let v = c.args.v in
    let l = c.loop-k in
    let called = c.place_item in
    let four : length v.items ≡ 4 = sym (length-map v.items (λ x. x)) ∙ (let long : _ = search rules in long) in (
      search rules,
      called.ensures.long,
      (λ st h.
          placed-turn c.args.place v.items st called.new.t l.k c.loop-k-test.true (omega (arith, l.invariant.0))
          (called.ensures.placed (items_placed (drop l.k v.items) c.args.place st) (l.invariant.2 st h, placed-count c.args.place (drop l.k v.items) st c.args.n h.1))),
    )

pub returns : goal.returns
returns c =
    let l = c.loop-k in
    record { placed = (λ st h. placed_end c.args.place c.args.v.items st l.t l.k (omega (arith, c.loop-k-test.false)) (l.invariant.2 st h)); long = l.invariant.1 }
