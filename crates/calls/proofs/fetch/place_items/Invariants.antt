-- `fetch::place_items`: the invariant is that the items from k on are placed.
use Prim.Native.Nat.{◌≤◌}
use mathlib.Core.Path.{◌≡◌}
use lib.ListN.{length, drop}
use Rattle.rows.specs.Tables.{State}
use Rattle.rows.specs.vocabulary.Represents.{Represents}
use Rattle.calls.specs.vocabulary.Lookups.{HasRows}
use Rattle.calls.specs.vocabulary.Loans.{items_placed}
use Rattle.calls.proofs.fetch.place_items.Given as goal

abbrev pub invariant-loop-k : goal.invariant-loop-k
invariant-loop-k l = (l.k ≤ 4) × (length l.t ≡ 11265) × ((st : State) → HasRows l.initial.t l.n st → Represents l.t (items_placed (drop l.k l.v.items) l.place st))
