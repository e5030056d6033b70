-- `lend::lend_items`: one item after the other.
use borrow.Author.Rules.{rules}
use native.Mathlib.Omega.{arith}
use mathlib.Core.Path.{◌≡◌, refl, sym, subst, ◌∙◌}
use lib.ListN.{length}
use Rattle.std.proofs.lemmas.List.Elements.{All-get_or}
use Rattle.calls.specs.Loans.{Lending}
use Rattle.calls.specs.vocabulary.Asks.{no_item_row, ItemFits, ItemHeld, LentTo}
use Rattle.calls.proofs.Asked.{copies-from}
use Rattle.calls.proofs.Lent.{lent-from, lent-end}
use Rattle.calls.proofs.lend.lend_items.Goals as goal

pub loop-x-init : goal.loop-x-init
loop-x-init c =
    record {
      long = c.requires.0;
      rows = c.requires.1.0;
      next = c.requires.1.1;
      count = omega (arith, c.requires.2);
      more = omega arith;
      lent = (λ st m sd h port held. (m, h, refl));
    }

pub lend_item-lent-requires : goal.lend_item-lent-requires
lend_item-lent-requires c =
    let xs = c.args.items in
    let l = c.loop-x in
    let i = l.invariant in
    let four : length xs ≡ 4 = search rules in
    let fits = All-get_or (ItemFits c.args.k.rows) xs l.x-index no_item_row (omega arith) c.requires.4 in
    let cut = copies-from xs l.x-index no_item_row (omega arith) in (
      i.long,
      (omega (arith, i.rows, cut), omega (arith, i.next, cut), omega (arith, i.count, c.loop-x-test.true)),
      omega (arith, c.requires.3, i.more),
      (omega (arith, fits.0, i.more), fits.1),
    )

pub loop-x-preserved : goal.loop-x-preserved
loop-x-preserved c =
    let xs = c.args.items in
    let l = c.loop-x in
    let i = l.invariant in
    let called = c.lend_item-lent in
    let grown = called.ensures.grows in
    let four : length xs ≡ 4 = search rules in
    let cut = copies-from xs l.x-index no_item_row (omega arith) in
    let w = c.args.w in record {
      long = called.ensures.long;
      rows = omega (arith, i.rows, cut, grown.1);
      next = omega (arith, i.next, cut, grown.2);
      count = omega (arith, i.count, grown.3);
      more = omega (arith, i.more, grown.0);
      lent = (λ st m sd h port held.
          let (n, there, same) = i.lent st m sd h port held in
          let here = All-get_or (ItemHeld st w.asker) xs l.x-index no_item_row (omega arith) held in
          (_, called.ensures.lent st n sd there port here, sym (lent-from st w.port w.number xs l.x-index no_item_row n (omega arith)) ∙ same));
    }

pub returns : goal.returns
returns c =
    let xs = c.args.items in
    let l = c.loop-x in
    let i = l.invariant in
    let four : length xs ≡ 4 = search rules in
    let w = c.args.w in record {
      lent = (λ st m sd h port held.
          let (n, there, same) = i.lent st m sd h port held in
          subst (λ (y : Lending). LentTo l.t l.lent st y) (sym (lent-end st w.port w.number xs l.x-index n (omega (arith, c.loop-x-test.false))) ∙ same) there);
      long = i.long;
    }
