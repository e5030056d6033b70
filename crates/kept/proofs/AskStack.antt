-- Copies stacked on rows: their numbers, look-up among them, and what holds of them all if it holds of each copy.
use Prim.Native.Nat.{ℕ, suc, ◌+◌, ◌<◌, ◌≤◌}
use mathlib.Core.Bool.{Bool, true, false}
use mathlib.Core.List.{List, [], ◌∷◌}
use mathlib.Core.Path.{◌≡◌, refl, ap, ◌∙◌}
use lib.Dec.{eqb}
use lib.ListN.{length}
use borrow.Author.Tests.{eqb-true, eqb-false, ne_eqb}
use native.Mathlib.Omega.{arith}
use Rattle.rows.specs.declared.Row.{Row}
use Rattle.rows.specs.Lists.{all, first_with, top_of, rises, member}
use Rattle.rows.specs.Tables.{State, row_of, numbers}
use Rattle.rows.proofs.Bools.{and_l, and_r, and_i, eqb-self}
use Rattle.rows.proofs.Keyed.{rises-cons}
use Rattle.calls.specs.declared.Item.{Item}
use Rattle.calls.specs.Rules.{copy_of}
use Rattle.calls.specs.Loans.{copy_lent}
use Rattle.rows.specs.Sound.{sourced}
use Rattle.kept.proofs.Sourced.{sourced-cons}
use Rattle.kept.proofs.AskItems.{stacked}

module _ (st : State) (c v : ℕ) where
  -- ---- look-up
  cons-found : (n : ℕ) (i : Item) (rs : List Row) (m : ℕ) → m < n → row_of (copy_lent st c v n i ∷ rs) m ≡ row_of rs m
  unfolding row_of first_with copy_lent copy_of
  cons-found n i rs m h = rw (ne_eqb n m (λ z. omega arith)) refl

  pub row-stacked : (ks : List Item) (n : ℕ) (rs : List Row) (m : ℕ) → m < n → row_of (stacked st c v ks n rs) m ≡ row_of rs m
  unfolding stacked
  row-stacked [] n rs m h = refl
  row-stacked (i ∷ ks) n rs m h = row-stacked ks (suc n) (copy_lent st c v n i ∷ rs) m (omega arith) ∙ cons-found n i rs m h

  pub numbers-stacked : (ks : List Item) (n : ℕ) (rs : List Row) (m : ℕ) → m < n → member m (numbers (stacked st c v ks n rs)) ≡ member m (numbers rs)
  unfolding stacked
  numbers-stacked [] n rs m h = refl
  numbers-stacked (i ∷ ks) n rs m h =
      numbers-stacked ks (suc n) (copy_lent st c v n i ∷ rs) m (omega arith) ∙ (unfold numbers member copy_lent copy_of in rw (ne_eqb m n (λ z. omega arith)) refl)

  -- a copy bears the request's number
  pub bears-stacked : (ks : List Item) (n : ℕ) (rs : List Row) (m : ℕ) → n ≤ m → m < n + length ks → (row_of (stacked st c v ks n rs) m).request ≡ v
  unfolding stacked
  bears-stacked [] n rs m lo hi = absurd (omega arith)
  bears-stacked (i ∷ ks) n rs m lo hi = pick (bears-stacked ks (suc n) (copy_lent st c v n i ∷ rs) m) (eqb m n) refl
    where
      first : (row_of (copy_lent st c v n i ∷ rs) n).request ≡ v
      first = unfold row_of first_with copy_lent copy_of in rw (eqb-self n) refl

      pick : (suc n ≤ m → m < suc n + length ks → (row_of (stacked st c v ks (suc n) (copy_lent st c v n i ∷ rs)) m).request ≡ v) → (b : Bool) → eqb m n ≡ b
          → (row_of (stacked st c v ks (suc n) (copy_lent st c v n i ∷ rs)) m).request ≡ v
      pick ih true q = rw (eqb-true m n q) (ap (λ r. r.request) (row-stacked ks (suc n) (copy_lent st c v n i ∷ rs) n (omega arith)) ∙ first)
      pick ih false q = let ne = eqb-false m n q in ih (omega arith) (omega arith)

  -- ---- numbers
  pub length-stacked : (ks : List Item) (n : ℕ) (rs : List Row) → length (stacked st c v ks n rs) ≡ length ks + length rs
  unfolding stacked
  length-stacked [] n rs = omega arith
  length-stacked (i ∷ ks) n rs =
      let ih : length (stacked st c v ks (suc n) (copy_lent st c v n i ∷ rs)) ≡ length ks + suc (length rs) = length-stacked ks (suc n) (copy_lent st c v n i ∷ rs) in omega arith

  pub rises-stacked : (ks : List Item) (n : ℕ) (rs : List Row) → top_of (λ r. r.number) rs < n → rises (λ r. r.number) rs ≡ true → rises (λ r. r.number) (stacked st c v ks n rs) ≡ true
  unfolding stacked
  rises-stacked [] n rs h e = e
  rises-stacked (i ∷ ks) n rs h e =
      rises-stacked ks (suc n) (copy_lent st c v n i ∷ rs) (unfold top_of copy_lent copy_of in omega arith) (rises-cons (λ r. r.number) (copy_lent st c v n i) rs (unfold copy_lent copy_of in h) e)

  pub top-stacked : (ks : List Item) (n : ℕ) (rs : List Row) → top_of (λ r. r.number) rs < n → top_of (λ r. r.number) (stacked st c v ks n rs) < n + length ks
  unfolding stacked
  top-stacked [] n rs h = omega arith
  top-stacked (i ∷ ks) n rs h =
      let ih : top_of (λ r. r.number) (stacked st c v ks (suc n) (copy_lent st c v n i ∷ rs)) < suc n + length ks =
      top-stacked ks (suc n) (copy_lent st c v n i ∷ rs) (unfold top_of copy_lent copy_of in omega arith) in omega arith

  -- ---- what holds of each copy, with a number from lo on and below hi
  module _ (good : Item → Bool) (lo hi : ℕ) where
    pub all-stacked : (P : Row → Bool) → ((n : ℕ) (i : Item) → good i ≡ true → lo ≤ n → n < hi → P (copy_lent st c v n i) ≡ true)
        → (ks : List Item) (n : ℕ) (rs : List Row) → all good ks ≡ true → lo ≤ n → n + length ks ≤ hi → all P rs ≡ true → all P (stacked st c v ks n rs) ≡ true
    unfolding stacked all
    all-stacked P h [] n rs g l u e = e
    all-stacked P h (i ∷ ks) n rs g l u e =
        all-stacked P h ks (suc n) (copy_lent st c v n i ∷ rs) (and_r (good i) (all good ks) g) (omega arith) (omega arith)
        (and_i (P (copy_lent st c v n i)) (all P rs) (h n i (and_l (good i) (all good ks) g) l (omega arith)) e)

    -- a clause of rows and their sources: those of the copies are among the rows b, below lo
    pub sourced-stacked : (F : Row → Row → Row → Bool) (b : List Row) → c < lo
        → ((n : ℕ) (i : Item) → good i ≡ true → (i.row < lo) × (F (copy_lent st c v n i) (row_of b i.row) (row_of b c) ≡ true))
        → (ks : List Item) (n : ℕ) (rs : List Row) → all good ks ≡ true → lo ≤ n → ((m : ℕ) → m < lo → row_of rs m ≡ row_of b m) → sourced F rs ≡ true
        → sourced F (stacked st c v ks n rs) ≡ true
    unfolding stacked all
    sourced-stacked F b low h [] n rs g l o e = e
    sourced-stacked F b low h (i ∷ ks) n rs g l o e =
        sourced-stacked F b low h ks (suc n) (copy_lent st c v n i ∷ rs) (and_r (good i) (all good ks) g) (omega arith) (λ m lt. cons-found n i rs m (omega arith) ∙ o m lt)
        (sourced-cons F (copy_lent st c v n i) rs (fits (h n i (and_l (good i) (all good ks) g))) e)
      where
        fits : (i.row < lo) × (F (copy_lent st c v n i) (row_of b i.row) (row_of b c) ≡ true)
            → F (copy_lent st c v n i) (row_of rs (copy_lent st c v n i).source) (row_of rs (copy_lent st c v n i).via) ≡ true
        fits (k, q) = unfold copy_lent copy_of in (rw (o i.row k, o c low) q)
