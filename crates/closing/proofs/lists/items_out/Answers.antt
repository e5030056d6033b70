use borrow.Author.Rules.{rules}
use native.Mathlib.Omega.{arith}
use mathlib.Core.Path.{◌≡◌, refl, sym, ◌∙◌}
use lib.ListN.{length, length-map}
use Rattle.rows.specs.vocabulary.Sizes.{ITEMS}
use Rattle.closing.proofs.ListsOut.{out_to, out_state, item-stands, loop-start, loop-turn, loop-end}
use Rattle.closing.proofs.lists.items_out.Goals as goal

pub loop-k-init : goal.loop-k-init
loop-k-init c = (
  c.requires.0,
  (λ st b new v old e rep count here stand out. loop-start st new old b v c.args.t.now rep here.0),
)

pub loop-k-preserved : goal.loop-k-preserved
loop-k-preserved c =
    let called = c.item_out in
    let l = c.loop-k in
    let items = c.args.v.items in
    let four : length items ≡ ITEMS = sym (length-map items (λ x. x)) ∙ (let long : _ = search rules in long) in (
      called.ensures.long,
      (λ st b new v old e rep count here stand out.
          loop-turn st new old b l.k v items e called.new.t
          (called.ensures.out (out_state st new old b l.k v) b new (out_to b l.k v) old
          (l.invariant.1 st b new v old e rep count here stand out) count (refl, here.1)
          (item-stands st items l.k (omega (arith, c.loop-k-test.true)) stand) out)),
    )

pub returns : goal.returns
returns c =
    let l = c.loop-k in
    let v = c.args.v in
    let four : length v.items ≡ ITEMS = sym (length-map v.items (λ x. x)) ∙ (let long : _ = search rules in long) in record {
      out = (λ st b new old rep count here stand out.
          loop-end st new old b l.k v (omega (arith, c.loop-k-test.false)) l.t
          (l.invariant.1 st b new v old refl rep count here stand out));
      long = l.invariant.0;
    }
