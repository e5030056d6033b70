-- `lend::lend_items`: the items before the loop's position are lent; there are slots, numbers and places for those from it on.
use Prim.Native.Nat.{◌+◌, ◌≤◌}
use mathlib.Core.Bool.{true}
use mathlib.Core.Path.{◌≡◌}
use lib.ListN.{length, drop}
use Rattle.rows.specs.Tables.{State}
use Rattle.rows.specs.Sound.{sound}
use Rattle.rows.specs.vocabulary.Sizes.{ROWS, LAST-NEXT}
use Rattle.calls.specs.Loans.{Lending, lend_items}
use Rattle.calls.specs.vocabulary.Lookups.{StandsAt}
use Rattle.calls.specs.vocabulary.Asks.{copies_in, ItemsHeld, LentTo, named_in}
use Rattle.calls.proofs.lend.lend_items.Given as goal

abbrev pub invariant-loop-x : goal.invariant-loop-x
invariant-loop-x l =
    record {
      long : length l.t ≡ 11265;
      rows : l.lent.rows + copies_in (drop l.x-index l.x-items) ≤ ROWS;
      next : l.lent.next + copies_in (drop l.x-index l.x-items) ≤ LAST-NEXT;
      count : l.lent.count ≤ l.x-index;
      more : l.fn.k.rows ≤ l.lent.rows;
      lent : (st : State) (m : Lending) → sound st ≡ true → LentTo l.initial.t l.fn.k st m → StandsAt st l.w.port l.w.slot → ItemsHeld st l.w.asker l.x-items
          → (n : Lending) × LentTo l.t l.lent st n
          × (lend_items st l.w.port l.w.number (named_in (drop l.x-index l.x-items)) n ≡ lend_items st l.w.port l.w.number (named_in l.x-items) m);
    }
