-- Whether a row is a source of another, asked of the words of all rows one after the other.
use Prim.Native.Nat.{ℕ, zero, suc, ◌+◌}
use mathlib.Core.Bool.{Bool, true, false, ◌||◌}
use mathlib.Core.List.{List, [], ◌∷◌, ◌++◌}
use mathlib.Core.Path.{◌≡◌, refl, ap, sym, subst, ◌∙◌}
use native.Mathlib.Numerals.{add-one}
use borrow.Author.Tests.{eqb-true, eq-eqb}
use lib.Dec.{eqb}
use lib.ListN.{length, get_or}
use lib.Seq.{append_snoc}
use Rattle.rows.specs.declared.Row.{Row}
use Rattle.rows.specs.Lists.{any, member, rises}
use Rattle.rows.specs.Tables.{State, sources}
use Rattle.rows.specs.Layout.{row_slot}
use Rattle.rows.specs.vocabulary.Represents.{Represents, sources_older}
use Rattle.rows.proofs.Bools.{bool_eq}
use Rattle.rows.proofs.Lists.{member-nonzero}
use Rattle.rows.proofs.Slots.{represented-well, row-words-at, source-kept, via-kept, number-of-row}
use Rattle.calls.proofs.Refusing.{row-some}

module _ (t : List ℕ) (w : ℕ) where
  -- one of the first k rows has the word for a source
  unfoldable pub used_to : ℕ → Bool
  used_to zero = false
  used_to (suc k) = (eqb (get_or t (6144 + k) 0) w || eqb (get_or t (7168 + k) 0) w) || used_to k

  pub used-none : false ≡ used_to 0
  unfolding used_to
  used-none = refl

  pub used-more : (k : ℕ) (found : Bool) → found ≡ used_to k → (eqb (get_or t (6144 + k) 0) w || eqb (get_or t (7168 + k) 0) w) || found ≡ used_to (k + 1)
  unfolding used_to
  used-more k found h = rw (add-one k, h) refl

module _ {t : List ℕ} {st : State} (rep : Represents t st) (e i : ℕ) (at : row_slot st.rows e ≡ suc i) where
  -- a source word is that of the row e where the source is e
  is_word : (s w : ℕ) → w ≡ row_slot st.rows s → eqb w (suc i) ≡ eqb e s
  is_word s w h =
      bool_eq (eqb w (suc i)) (eqb e s)
      (λ q. eq-eqb e s (sym (number-of-row st.rows e i at) ∙ number-of-row st.rows s i (sym h ∙ eqb-true w (suc i) q)))
      (λ q. eq-eqb w (suc i) (h ∙ ap (row_slot st.rows) (sym (eqb-true e s q)) ∙ at))

  names-row : (r : Row) → member e (sources r) ≡ eqb e r.source || eqb e r.via
  unfolding sources member
  names-row r = member-nonzero (r.source ∷ r.via ∷ []) e ∙ rw (row-some rep e i at).1 (pick (eqb e r.source) (eqb e r.via))
    where
      pick : (a b : Bool) → a || (b || false) ≡ a || b
      pick true b = refl
      pick false true = refl
      pick false false = refl

  used-old : (new old : List Row) → st.rows ≡ new ++ old → used_to t (suc i) (length old) ≡ any (λ r. member e (sources r)) old
  unfolding used_to any
  used-old new [] cut = refl
  used-old new (r ∷ rs) cut =
      let w = represented-well rep in
      let words = row-words-at rep new r rs cut in
      let up = subst (λ (l : List Row). rises (λ r. r.number) l ≡ true) cut w.rows-rise in
      let older = subst (λ (l : List Row). sources_older l ≡ true) cut w.sources-old in
      let first = words.source ∙ (source-kept new r rs up older).0 ∙ ap (λ (l : List Row). row_slot l r.source) (sym cut) in
      let second = words.via ∙ (via-kept new r rs up older).0 ∙ ap (λ (l : List Row). row_slot l r.via) (sym cut) in
      let ih = used-old (new ++ (r ∷ [])) rs (cut ∙ sym (append_snoc new r rs)) in
      rw (is_word r.source (get_or t (6144 + length rs) 0) first, is_word r.via (get_or t (7168 + length rs) 0) second, ih, names-row r) refl

  pub used_all : (n : ℕ) → n ≡ length st.rows → used_to t (i + 1) n ≡ any (λ r. member e (sources r)) st.rows
  used_all n h = ap (λ (k : ℕ). used_to t k n) (add-one i) ∙ ap (used_to t (suc i)) h ∙ used-old [] st.rows refl
