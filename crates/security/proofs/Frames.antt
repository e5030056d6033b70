-- What an accepted call leaves of one row that was there: all but its place, and the place too of what is no end and not with the system.
use Prim.Native.Nat.{ℕ}
use mathlib.Core.Bool.{true, false}
use mathlib.Core.Path.{◌≡◌, refl, sym, ap, ◌∙◌, subst}
use mathlib.Core.Logic.{⊎_elim}
use Rattle.rows.specs.declared.Row.{Row}
use Rattle.rows.specs.Lists.{some}
use Rattle.rows.specs.Codes.{is_end, is_system, with_system}
use Rattle.rows.specs.Tables.{State, row_of}
use Rattle.rows.specs.Setters.{with_place}
use Rattle.rows.proofs.Bools.{clash, not_t, eqb-self}
use Rattle.tables.proofs.Sound.{Sound}
use Rattle.calls.specs.declared.Call.{Call}
use Rattle.security.specs.Sessions.{IsRow}
use Rattle.security.specs.Changes.{goes, place_after}
use Rattle.security.proofs.Rows.{source-listed}
use Rattle.security.proofs.Numbers.{source_row}
use Rattle.security.proofs.Effects.{Effect}
use Rattle.security.proofs.Touches.{touches}
use Rattle.security.proofs.Moves.{old-moves, moves_of}

module _ (st st' : State) (c : Call) (s : Sound st) (x : Effect st c st') (n : ℕ) (t : IsRow st n) (t' : IsRow st' n) where
  abbrev r : Row
  r = row_of st.rows n

  abbrev r' : Row
  r' = row_of st'.rows n

  pub place-after : r'.place ≡ place_after st c r
  unfolding with_place
  place-after = let k = touches st s c st' x in ap (λ r. r.place) (k.rows-kept n t (not_t (goes st c n) (sym (k.rows n t) ∙ t')))

  -- what does not look at the place
  pub same-but-place : {A : Type 0} (f : Row → A) → ((p : ℕ) (r : Row) → f (with_place p r) ≡ f r) → f r' ≡ f r
  same-but-place f h = ap f ((moves_of st s c st' x).only-place n t t') ∙ h r'.place r

  pub same_row : is_end r.kind ≡ false → is_system r.place ≡ false → r' ≡ r
  unfolding is_system
  same_row e p =
      ⊎_elim (λ y. y.1)
      (λ y. ⊎_elim (λ k. clash k e) (λ k. clash (ap is_system k.1 ∙ eqb-self with_system) p) (old-moves st s c n r' t y))
      ((moves_of st s c st' x).arrives n t')

-- the first source of a row that stays, stays
pub source-kept : (st st' : State) (c : Call) → Sound st → Sound st' → Effect st c st' → (n : ℕ) → IsRow st n → IsRow st' n → some (row_of st.rows n).source ≡ true
    → (IsRow st (row_of st.rows n).source) × (IsRow st' (row_of st.rows n).source)
unfolding with_place
source-kept st st' c s s' x n t t' h =
    let same : (row_of st'.rows n).source ≡ (row_of st.rows n).source = same-but-place st st' c s x n t t' (λ r. r.source) (λ p r. refl) in
    let m = (row_of st.rows n).source in (
      source_row st s n m t (source-listed (row_of st.rows n) h),
      subst (IsRow st') same (source_row st' s' n (row_of st'.rows n).source t' (source-listed (row_of st'.rows n) (ap some same ∙ h))),
    )
