-- `ask::ask_items`: the items before the loop's position are held, each with its row.
use Prim.Native.Nat.{ℕ, ◌<◌, ◌≤◌}
use mathlib.Core.Path.{◌≡◌}
use lib.ListN.{length, get_or}
use Rattle.rows.specs.Tables.{State}
use Rattle.rows.specs.vocabulary.Sizes.{PROCESSES}
use Rattle.calls.specs.vocabulary.Lookups.{HasRows}
use Rattle.calls.specs.vocabulary.Asks.{no_item_row, ItemFits, ItemHeld}
use Rattle.calls.proofs.ask.ask_items.Given as goal

abbrev pub invariant-loop-k : goal.invariant-loop-k
invariant-loop-k l =
    record {
      long : length l.rows ≡ 4;
      fits : (j : ℕ) → j < l.k → ItemFits l.n (get_or l.rows j no_item_row);
      held : (st : State) → HasRows l.t l.n st → l.w.asker ≤ PROCESSES → (j : ℕ) → j < l.k
          → ((get_or l.rows j no_item_row).item ≡ get_or l.items j no_item_row.item) × ItemHeld st l.w.asker (get_or l.rows j no_item_row);
    }
