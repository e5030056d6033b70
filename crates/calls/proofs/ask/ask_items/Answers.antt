-- `ask::ask_items`: an item that is missing, or what the items give.
use borrow.Author.Rules.{rules}
use Prim.Native.Nat.{ℕ, ◌<◌}
use native.Mathlib.Omega.{arith}
use mathlib.Core.Path.{◌≡◌, refl, ap, sym, ◌∙◌}
use borrow.Author.Count.{below_more}
use lib.ListN.{length, get_or, set, length-set, length-map, get_or-map}
use lib.Seq.{get_or-set_same, get_or-set_other, ext_get_or}
use Rattle.std.proofs.lemmas.List.Elements.{All-from_get_or}
use Rattle.rows.specs.Lists.{filter, some}
use Rattle.calls.specs.declared.Item.{Item}
use Rattle.calls.specs.declared.ItemRow.{ItemRow}
use Rattle.calls.specs.declared.Call.TheVariants.{Ask}
use Rattle.calls.specs.Loans.{items_of}
use Rattle.calls.specs.Calls.{refusals}
use Rattle.calls.specs.vocabulary.Asks.{no_item_row, items_in, ItemFits, ItemHeld}
use Rattle.calls.proofs.Judging.{refused-answers}
use Rattle.calls.proofs.Asked.{looked-found, looked-nothing, held_fits, item-seven}
use Rattle.calls.proofs.ask.ask_items.Goals as goal

pub loop-k-init : goal.loop-k-init
loop-k-init c = record { long = refl; fits = (λ j h. absurd (omega arith)); held = (λ st h few j less. absurd (omega arith)) }

pub loop-k-preserved : goal.loop-k-preserved
loop-k-preserved c =
    let l = c.loop-k in
    let i = l.invariant in
    let found = c.item_row in
    let a = c.args in
    let x = c.in-Some.x in
    let p = a.w.asker in
    let room : l.k < length l.rows = omega (arith, i.long, c.loop-k-test.true) in
    let same = get_or-set_same l.rows l.k x no_item_row room in record {
      long = length-set l.rows l.k x ∙ i.long;
      fits = below_more (λ (j : ℕ). ItemFits a.n (get_or (set l.rows l.k x) j no_item_row)) l.k
          (λ j h. rw (get_or-set_other l.rows l.k j x no_item_row (λ z. omega arith)) (i.fits j h))
          (rw same (held_fits a.n found.result x found.ensures.fits c.in-Some.is));
      held = (λ st h few.
          below_more (λ (j : ℕ). ((get_or (set l.rows l.k x) j no_item_row).item ≡ get_or a.items j no_item_row.item) × ItemHeld st p (get_or (set l.rows l.k x) j no_item_row)) l.k
          (λ j less. rw (get_or-set_other l.rows l.k j x no_item_row (λ z. omega arith)) (i.held st h few j less))
          (rw same (looked-found st p (get_or a.items l.k no_item_row.item) found.result x (found.ensures.found st h few) c.in-Some.is)));
    }

pub returns-in_default : goal.returns-in_default
unfolding refusals
returns-in_default c =
    let l = c.loop-k in
    let found = c.item_row in
    let w = c.args.w in
    let is = c.args.items in
    let four : length is ≡ 4 = search rules in record {
      answers = (λ st sd h over few.
          let gone = looked-nothing st w.asker (get_or is l.k no_item_row.item) found.result (found.ensures.found st h few) c.in_default.is in
          refused-answers st (Ask w.asker w.port is) h.0 7 (item-seven st w.asker w.port is l.k no_item_row.item (omega (arith, four, c.loop-k-test.true)) gone) (λ z. absurd (omega arith)));
      long = c.requires.0;
    }

pub ask_held-requires : goal.ask_held-requires
ask_held-requires c =
    let l = c.loop-k in
    let i = l.invariant in
    (c.requires.0, c.requires.1, c.requires.2, All-from_get_or (ItemFits c.args.n) l.rows no_item_row (λ j h. i.fits j (omega (arith, i.long, h, c.loop-k-test.false))))

pub returns : goal.returns
unfolding items_of
returns c =
    let l = c.loop-k in
    let i = l.invariant in
    let done = c.ask_held in
    let w = c.args.w in
    let is = c.args.items in
    let four : length is ≡ 4 = search rules in record {
      answers = (λ st sd h over few.
          let all = All-from_get_or (ItemHeld st w.asker) l.rows no_item_row (λ j less. (i.held st h few j (omega (arith, i.long, less, c.loop-k-test.false))).1) in
          let same : items_in l.rows ≡ is =
          ext_get_or no_item_row.item (items_in l.rows) is (length-map l.rows (λ x. x.item) ∙ i.long ∙ sym four)
          (λ j less. get_or-map (λ (x : ItemRow). x.item) l.rows j no_item_row ∙ (i.held st h few j (omega (arith, i.long, length-map l.rows (λ (x : ItemRow). x.item), less, c.loop-k-test.false))).0) in
          done.ensures.answers st is sd h over all (ap (filter (λ (i : Item). some i.row)) same));
      long = done.ensures.long;
    }
