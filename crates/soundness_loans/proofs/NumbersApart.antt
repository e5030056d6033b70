-- One walk along the numbers of rows and of requests, which both rise: whether a request has the number of a row.
use Prim.Native.Nat.{ℕ, suc, ◌+◌, ◌<◌, ◌≤◌}
use mathlib.Core.Bool.{Bool, true, not, ◌&&◌}
use mathlib.Core.List.{List, [], ◌∷◌, ◌++◌, map}
use mathlib.Core.Path.{◌≡◌, refl, ap, sym, subst, ◌∙◌}
use mathlib.Core.Logic.{⊎_elim}
use native.Mathlib.Nat.{zero-add, eq-or-lt_of_le}
use native.Mathlib.Decide.{dec_lt}
use native.Mathlib.Omega.{arith}
use borrow.Author.Tests.{eqb-true, eq-eqb, lt-ltb, ltb-true}
use lib.Dec.{eqb, ltb}
use lib.ListN.{length, get_or, drop}
use lib.Seq.{get_or-drop}
use Rattle.rows.specs.Lists.{all, member}
use Rattle.rows.specs.Tables.{State, numbers}
use Rattle.rows.specs.Sound.{numbers_apart}
use Rattle.rows.specs.Layout.{request_at, requests_to, row_slot}
use Rattle.rows.specs.vocabulary.Represents.{Represents}
use Rattle.rows.specs.vocabulary.Searches.{Ascending}
use Rattle.soundness_loans.specs.vocabulary.Clauses.{slot_number, FirstNotBelow}
use Rattle.rows.proofs.Bools.{bool_eq, and_l, and_r, and_i}
use Rattle.rows.proofs.Searches.{Keys, keys-member, keys-rise}
use Rattle.rows.proofs.Slots.{represented-well, row-words-at, row-words, row-found, request-words-at, slot-there}
use Rattle.soundness_loans.proofs.RequestClauses.{number_word, requests-read, all-next}

-- ---- rows below a number
pub below_none : (t : List ℕ) (q from i : ℕ) → from ≤ i → i < from → slot_number t i < q
below_none t q from i lo hi = absurd (omega arith)

pub below_more : (t : List ℕ) (q from s : ℕ) → ((i : ℕ) → from ≤ i → i < s → slot_number t i < q) → slot_number t s < q → (i : ℕ) → from ≤ i → i < s + 1 → slot_number t i < q
below_more t q from s below here i lo hi =
    let le : i ≤ s = omega arith in ⊎_elim (λ e. subst (λ (k : ℕ). slot_number t k < q) (sym e) here) (λ lt. below i lo lt) (eq-or-lt_of_le le)

-- ---- numbers that rise
-- keys known where each stands
keys-at : {A : Type 0} (key : A → ℕ) (l : List ℕ) (xs : List A)
    → ((new : List A) (x : A) (old : List A) → xs ≡ new ++ (x ∷ old) → get_or l (length old) 0 ≡ key x) → Keys key l xs
keys-at key l [] h = tt
keys-at {A} key l (x ∷ xs) h = (h [] x xs refl, keys-at key l xs (λ new y old e. h (x ∷ new) y old (ap (λ (ys : List A). x ∷ ys) e)))

module _ {st : State} {t : List ℕ} (rep : Represents t st) where
  row-keys : Keys (λ r. r.number) t st.rows
  row-keys = keys-at (λ r. r.number) t st.rows (λ new y old e. (row-words-at rep new y old e).number)

  rows-ascend : (i k : ℕ) → i < k → k < length st.rows → get_or t i 0 < get_or t k 0
  unfolding Ascending
  rows-ascend = keys-rise (λ r. r.number) t st.rows row-keys (represented-well rep).rows-rise

  requests-ascend : (j k : ℕ) → j < k → k < length st.requests → (request_at t j).number < (request_at t k).number
  unfolding Ascending
  requests-ascend j k lt h =
      let up = keys-rise (λ v. v.number) (drop 10240 t) st.requests
      (keys-at (λ v. v.number) (drop 10240 t) st.requests (λ new v old e. get_or-drop 10240 t (length old) 0 ∙ (request-words-at rep new v old e).number))
      (represented-well rep).requests-rise j k lt h in
      omega (arith, up, get_or-drop 10240 t j 0, get_or-drop 10240 t k 0, number_word t j, number_word t k)

  -- rows below q in the slots before s, and none in s: the row at s has q, or none has
  found-at-slot : (n q s : ℕ) → n ≡ length st.rows → ((i : ℕ) → i < s → slot_number t i < q) → (s < n → q ≤ slot_number t s)
      → ltb s n && eqb (slot_number t s) q ≡ member q (numbers st.rows)
  unfolding numbers row_slot
  found-at-slot n q s e below reached = bool_eq (ltb s n && eqb (slot_number t s) q) (member q (numbers st.rows)) forth back
    where
      at : (i : ℕ) → slot_number t i ≡ get_or t i 0
      at i = ap (λ (k : ℕ). get_or t k 0) (zero-add i)

      forth : ltb s n && eqb (slot_number t s) q ≡ true → member q (numbers st.rows) ≡ true
      forth h =
          let lt = ltb-true s n (and_l (ltb s n) (eqb (slot_number t s) q) h) in
          let same : get_or t s 0 ≡ q = sym (at s) ∙ eqb-true (slot_number t s) q (and_r (ltb s n) (eqb (slot_number t s) q) h) in
          subst (λ (k : ℕ). member k (map (λ r. r.number) st.rows) ≡ true) same (keys-member (λ r. r.number) t st.rows row-keys s (omega arith))

      here : (i : ℕ) → row_slot st.rows q ≡ suc i → ltb s n && eqb (slot_number t s) q ≡ true
      here i d =
          let word : get_or t i 0 ≡ q = (row-words rep q i d).number ∙ (row-found st.rows q i d).1 in
          let inside : i < length st.rows = (row-found st.rows q i d).2 in
          let le : s ≤ i = elim (dec_lt i s) [ yes lt ↦ absurd (let no_more = below i lt in omega (arith, no_more, at i, word)) | no ge ↦ omega arith ] in
          let most : q ≤ slot_number t s = reached (omega arith) in
          let same : s ≡ i = ⊎_elim (λ x. x) (λ lt. absurd (let up = rows-ascend s i lt inside in omega (arith, up, most, at s, word))) (eq-or-lt_of_le le) in
          and_i (ltb s n) (eqb (slot_number t s) q) (lt-ltb s n (omega arith)) (eq-eqb (slot_number t s) q (at s ∙ ap (λ (k : ℕ). get_or t k 0) same ∙ word))

      back : member q (numbers st.rows) ≡ true → ltb s n && eqb (slot_number t s) q ≡ true
      back m = here _ (slot-there (λ r. r.number) st.rows q m)

  -- ---- the walk: the first j requests are told, and the rows before slot s are below those to come
  pub record Walked (j s : ℕ) (apart : Bool) : Type 0 where
    pub told : apart ≡ all (λ v. not (member v.number (numbers st.rows))) (requests_to t j)
    pub below : (k : ℕ) → j ≤ k → k < length st.requests → (i : ℕ) → i < s → slot_number t i < (request_at t k).number

  pub walk_start : Walked 0 0 true
  unfolding all requests_to
  walk_start = record { told = refl; below = λ k le lt i h. absurd (omega arith) }

  pub walk-next : (n j s s' q : ℕ) (apart : Bool) → n ≡ length st.rows → j < length st.requests → q ≡ (request_at t j).number
      → FirstNotBelow t n s q s' → Walked j s apart → Walked (j + 1) s' (not (ltb s' n && eqb (slot_number t s') q) && apart)
  walk-next n j s s' q apart e lt same first w =
      record {
        told =
            all-next (λ v. not (member v.number (numbers st.rows))) t j
            (ap not (found-at-slot n q s' e passed first.reached) ∙ ap (λ (k : ℕ). not (member k (numbers st.rows))) same) w.told;
        below = λ k le h i g. let up = requests-ascend j k (omega arith) h in let lo = passed i g in omega (arith, up, lo, same);
      }
    where
      passed : (i : ℕ) → i < s' → slot_number t i < q
      passed i h =
          elim (dec_lt i s) [
            | yes before ↦ (let lo = w.below j (omega arith) lt i before in omega (arith, lo, same))
            | no after ↦ first.below i (omega arith) h
          ]

  pub walk_end : (m s : ℕ) (apart : Bool) → m ≡ length st.requests → Walked m s apart → apart ≡ numbers_apart st.rows st.requests
  unfolding numbers_apart
  walk_end m s apart e w =
      w.told ∙ ap (λ (k : ℕ). all (λ v. not (member v.number (numbers st.rows))) (requests_to t k)) e ∙ ap (all (λ v. not (member v.number (numbers st.rows)))) (requests-read rep)
