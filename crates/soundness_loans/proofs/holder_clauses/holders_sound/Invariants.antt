-- `holder_clauses::holders_sound` meets its contract: the requests listed so far are right, or one is not; then the rows.
use mathlib.Core.Bool.{true}
use mathlib.Core.Path.{◌≡◌}
use lib.ListN.{length}
use Rattle.rows.specs.Tables.{State}
use Rattle.rows.specs.Lists.{all}
use Rattle.rows.specs.Layout.{requests_to}
use Rattle.rows.specs.vocabulary.Represents.{Represents}
use Rattle.soundness_loans.specs.vocabulary.Clauses.{items_listable, items_right}
use Rattle.soundness_loans.proofs.HolderClausesLoops.{Listing}
use Rattle.soundness_loans.proofs.holder_clauses.holders_sound.Given as goal

abbrev pub invariant-loop-j : goal.invariant-loop-j
invariant-loop-j l = ((st : State) → Represents l.t st → l.n ≡ length st.rows → l.right ≡ true
    → all (items_listable st.rows) (requests_to l.t l.j) ≡ all (items_listable st.rows) (requests_to l.t l.m))
    × ((st : State) → Represents l.t st → l.n ≡ length st.rows → l.m ≡ length st.requests → items_right st.rows st.requests ≡ true
    → Listing st.rows (requests_to l.t l.m) (requests_to l.t l.j) l.listing l.right)
