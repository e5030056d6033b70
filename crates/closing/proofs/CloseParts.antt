-- The parts of a closing joined: the lists settled, then the marked rows and requests removed; the marks are closed.
use Prim.Native.Nat.{ℕ}
use mathlib.Core.Bool.{Bool, true, false, not, ◌||◌}
use mathlib.Core.List.{List, [], ◌∷◌}
use mathlib.Core.Path.{◌≡◌, refl, sym, ap, ◌∙◌}
use Rattle.rows.specs.declared.Row.{Row}
use Rattle.rows.specs.declared.Request.{Request}
use Rattle.rows.specs.Lists.{filter, any, all, first_with, rises, pad, member}
use Rattle.rows.specs.Tables.{State, no_row, row_of, numbers, sources, marked}
use Rattle.rows.specs.vocabulary.Sizes.{ROWS, REQUESTS}
use Rattle.rows.specs.vocabulary.Represents.{sources_older, Represents}
use Rattle.rows.specs.Setters.{with_rows, with_requests}
use Rattle.rows.proofs.Bools.{and_i, or_l, or_r}
use Rattle.rows.proofs.Keyed.{first_key}
use Rattle.rows.proofs.Agree.{Agree, agree-found}
use Rattle.rows.proofs.RepresentedWords.{represented-well}
use Rattle.tables.proofs.Marking.{marked-closed}
use Rattle.changes.specs.vocabulary.Marks.{closed_under}
use Rattle.closing.specs.Closing.{settled}
use Rattle.closing.specs.vocabulary.Marks.{RowCount, RowsMarked, RequestsMarked}
use Rattle.closing.specs.vocabulary.Lists.{lists_settled}
use Rattle.closing.proofs.ListsSettled.{Blind, lists-rows, lists-marks, lists-closed, lists-tested, lists-settled}

all-agree : {A : Type 0} (f : A → Bool) (xs : List A) → Agree f (λ x. true) xs → all f xs ≡ true
unfolding all
all-agree f [] a = refl
all-agree f (x ∷ xs) a = and_i (f x) (all f xs) a.0 (all-agree f xs a.1)

marked-under : (f : Row → Bool) (rs : List Row) → rises (λ r. r.number) rs ≡ true → sources_older rs ≡ true
    → closed_under (marked f rs) rs ≡ true
unfolding closed_under row_of numbers
marked-under f rs up old =
    all-agree spared rs
    (agree-found (λ r. r.number) no_row spared (λ r. true) rs up
    (λ n t.
    let x = first_with (λ r. r.number) no_row rs n in
    pick x (f x) (any (λ s. member s (marked f rs)) (sources x)) refl
    (ap (λ (k : ℕ). member k (marked f rs)) (first_key (λ r. r.number) no_row rs n t) ∙ marked-closed f rs up old n t)))
  where
    spared : Row → Bool
    spared r = member r.number (marked f rs) || not (any (λ s. member s (marked f rs)) (sources r))

    pick : (x : Row) (a b : Bool) → any (λ s. member s (marked f rs)) (sources x) ≡ b → member x.number (marked f rs) ≡ a || b
        → member x.number (marked f rs) || not (any (λ s. member s (marked f rs)) (sources x)) ≡ true
    pick x a true q e = or_l (member x.number (marked f rs)) _ (e ∙ or_r a true refl)
    pick x a false q e = or_r (member x.number (marked f rs)) _ (ap not q)

-- a row whose source is marked is marked
pub represented-closed : (f : Row → Bool) (st : State) (t : List ℕ) → Represents t st → closed_under (marked f st.rows) st.rows ≡ true
represented-closed f st t rep = marked-under f st.rows (represented-well rep).rows-rise (represented-well rep).sources-old

-- what the two functions of removal leave of any state that the words represent
module _ (n : ℕ) (removed closed : List Bool) (t u v : List ℕ)
    (rows_out : (st : State) (g : List ℕ) → Represents t st → RowCount n st → RowsMarked removed g st → closed_under g st.rows ≡ true
    → Represents u (with_rows (filter (λ r. not (member r.number g)) st.rows) st))
    (requests-out : (st : State) (f : Request → Bool) → Represents u st → RequestsMarked closed f st
    → Represents v (with_requests (filter (λ w. not (f w)) st.requests) st))
  where
    -- of the state whose lists are settled
    pub taken-out : (g : List ℕ) (f : Request → Bool) → Blind f → (st : State) → RowCount n st → RowsMarked removed g st → RequestsMarked closed f st
        → closed_under g st.rows ≡ true → Represents t (lists_settled g f st) → Represents v (settled g f st)
    taken-out g f blind st count gone ended under rep =
        let now = lists_settled g f st in
        lists-settled g f blind st v
        (requests-out (with_rows (filter (λ r. not (member r.number g)) now.rows) now) f
        (rows_out now g rep (count ∙ sym (lists-rows g f st)) (gone ∙ ap (pad false ROWS) (sym (lists-marks g f st))) (lists-closed g f st ∙ under))
        (ended ∙ ap (pad false REQUESTS) (sym (lists-tested g f blind st))))
