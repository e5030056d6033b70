-- `request_clauses::items_lent` meets its contract: the items passed may be listed, and those after them or not.
use Rattle.std.proofs.Common.{◌≡◌, drop}
use Rattle.std.specs.Prelude.{◌&&◌}
use Rattle.rows.specs.Lists.{all, nonzero}
use Rattle.rows.specs.Tables.{State, row_of}
use Rattle.rows.specs.vocabulary.Represents.{Represents}
use Rattle.soundness_loans.specs.vocabulary.Clauses.{may_be_lent, items_listable, item_slots}
use Rattle.soundness_loans.proofs.request_clauses.items_lent.Given as goal

abbrev pub invariant-loop-k : goal.invariant-loop-k
invariant-loop-k l = (st : State) → Represents l.t st → l.slots ≡ item_slots st.rows l.v
    → l.lent && all (λ e. may_be_lent l.v (row_of st.rows e)) (nonzero (drop l.k l.v.items)) ≡ items_listable st.rows l.v
