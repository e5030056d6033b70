-- Searches of a column: by halves or by steps over numbers that rise, and from the last word back. What is found is the slot of the element.
use Rattle.std.proofs.Common.{below_more, not, ◌≡◌, ℕ, zero, suc, ◌+◌, ◌-◌, ◌%◌, ◌^◌, ◌<◌, ◌≤◌, Bool, true, false, cond, eqb, ltb, leb, ◌⊎◌, List, [], ◌∷◌, ◌++◌, map, length, get_or, take, drop, sym, refl, ap, ◌∙◌, subst, inl, inr, ⊎_elim, append_assoc, suc-le-suc, zero-le, le_of_suc-le-suc, eq-or-lt_of_le, arith, length-append, get_or-drop, get_or-take, ltb-true, lt-ltb, eqb-true, le-leb, leb-true}
use mathlib.Core.Bool.{false≢true}
use native.Mathlib.Decide.{dec_lt}
use borrow.Author.Tests.{eqb-false}
use lib.ListN.{get_or-eq_default}
use Rattle.std.specs.Prelude.{Option}
use Rattle.std.specs.Prelude.{Some, None}
use Rattle.std.specs.List.{position_or_len}
use Rattle.std.specs.List.Sorted.{IsPartitionedBy, IsPartitionPoint}
use Rattle.std.proofs.lemmas.List.{get_or_default}
use Rattle.std.proofs.lemmas.Bool.Decides.{nat_tests}
use Rattle.rows.specs.Lists.{rises, member, some, slot_with}
use Rattle.rows.specs.Layout.{leading}
use Rattle.rows.specs.vocabulary.Slots.{found_slot}
use Rattle.rows.specs.vocabulary.Searches.{Ascending, LastAt, UsedInFront, is_up_to, step_to, UpToInFront, LastUpTo}
use Rattle.rows.proofs.Bools.{clash, bool_eq, and_l, and_r, and_i, some-pos, pos-some, member-here, member-there}
use Rattle.rows.proofs.Keyed.{rises-rest, rises-older}

lt-or-ge : (a b : ℕ) → (a < b) ⊎ (b ≤ a)
lt-or-ge a b = elim (dec_lt a b) [ yes h ↦ inl h | no h ↦ inr (omega arith) ]

module _ (l : List ℕ) (k n : ℕ) where
  -- ---- by halves: what is before lo is less, and what is from hi on is more
  pub record Bracket (lo hi : ℕ) : Type 0 where
    pub below : (j : ℕ) → j < lo → get_or l j 0 < n
    pub above : (j : ℕ) → hi ≤ j → j < k → n < get_or l j 0

  pub bracket : Bracket 0 k
  bracket = record { below = λ j h. absurd (omega arith); above = λ j h g. absurd (omega arith) }

  pub half_up : Ascending k l → (lo hi mid : ℕ) → mid < k → get_or l mid 0 < n → Bracket lo hi → Bracket (mid + 1) hi
  unfolding Ascending
  half_up u lo hi mid h x b =
      record { below = below_more (λ j. get_or l j 0 < n) mid (λ j j<. let y : get_or l j 0 < get_or l mid 0 = u j mid j< h in omega arith) x; above = b.above }

  pub half_down : Ascending k l → (lo hi mid : ℕ) → n < get_or l mid 0 → Bracket lo hi → Bracket lo mid
  unfolding Ascending
  half_down u lo hi mid x b =
      record {
        below = b.below;
        above =
            λ j m≤j j<k.
            ⊎_elim (λ e. rw (← e) x) (λ lt. let y : get_or l mid 0 < get_or l j 0 = u mid j lt j<k in omega arith) (eq-or-lt_of_le m≤j);
      }

  pub half-hit : Ascending k l → (mid : ℕ) → mid < k → get_or l mid 0 ≡ n → LastAt l k n (Some mid)
  unfolding Ascending LastAt
  half-hit u mid h e = (h, e, (λ j lt g d. let y : get_or l mid 0 < get_or l j 0 = u mid j lt g in omega arith))

  pub half-none : (lo hi : ℕ) → hi ≤ lo → Bracket lo hi → LastAt l k n None
  unfolding LastAt
  half-none lo hi h b =
      λ j j<k e.
      ⊎_elim (λ lt. let y : get_or l j 0 < n = b.below j lt in omega arith) (λ ge. let y : n < get_or l j 0 = b.above j (omega arith) j<k in omega arith) (lt-or-ge j lo)

  -- ---- from the last word back: n is none of the words from i on
  abbrev pub FreeFrom : ℕ → Type 0
  FreeFrom i = (j : ℕ) → i ≤ j → j < k → get_or l j 0 ≡ n → ⊥

  pub back_more : (i : ℕ) → 0 < i → FreeFrom i → (get_or l (i - 1) 0 ≡ n → ⊥) → FreeFrom (i - 1)
  back_more i h free x j g j<k e = ⊎_elim (λ d. x (rw d e)) (λ lt. free j (omega arith) j<k e) (eq-or-lt_of_le g)

  pub back-hit : (i : ℕ) → 0 < i → i ≤ k → FreeFrom i → get_or l (i - 1) 0 ≡ n → LastAt l k n (Some (i - 1))
  unfolding LastAt
  back-hit i h g free e = (omega arith, e, (λ j lt. free j (omega arith)))

  pub back_none : (i : ℕ) → i ≤ 0 → FreeFrom i → LastAt l k n None
  unfolding LastAt
  back_none i h free = λ j. free j (omega arith)

-- ---- numbers that rise, with 0 after them
pub record Numbers (l : List ℕ) (k : ℕ) : Type 0 where
  pub rise : Ascending k l
  pub used : (i : ℕ) → i < k → 0 < get_or l i 0
  pub unused : (i : ℕ) → k ≤ i → get_or l i 0 ≡ 0

-- ---- by steps: the last number up to n is at a position, or after it and before the width's end
pub record Stepped (l : List ℕ) (n at width : ℕ) : Type 0 where
  pub here : 0 < at → is_up_to n (get_or l at 0) ≡ true
  pub after : (j : ℕ) → at + width ≤ j → is_up_to n (get_or l j 0) ≡ true → ⊥

module _ (l : List ℕ) (n : ℕ) where
  pub steps-start : Stepped l n 0 (length l)
  unfolding is_up_to some
  steps-start =
      record {
        here = λ h. absurd (omega arith);
        after = λ j h e. false≢true (sym (ap (λ (x : ℕ). is_up_to n x) (get_or-eq_default l 0 (omega arith))) ∙ e);
      }

  pub steps-turn : UpToInFront l n → (at width half : ℕ) → half + half ≤ width → Stepped l n at width → Stepped l n (step_to l n at half) (width - half)
  unfolding step_to
  steps-turn front at width half h p = pick (is_up_to n (get_or l (at + half) 0)) refl
    where
      pick : (b : Bool) → is_up_to n (get_or l (at + half) 0) ≡ b → Stepped l n (cond b (at + half) at) (width - half)
      pick true e = record { here = λ g. e; after = λ j g. p.after j (omega arith) }
      pick false e =
          record {
            here = p.here;
            after = λ j g d. ⊎_elim (λ (q : at + half ≡ j). clash (rw q d) e) (λ (lt : at + half < j). clash (front (at + half) j lt d) e) (eq-or-lt_of_le (omega arith));
          }

  -- a step stays within the width
  pub step-le : (at half : ℕ) → (at ≤ step_to l n at half) × (step_to l n at half ≤ at + half)
  unfolding step_to
  step-le at half = pick (is_up_to n (get_or l (at + half) 0))
    where
      pick : (b : Bool) → (at ≤ cond b (at + half) at) × (cond b (at + half) at ≤ at + half)
      pick true = (omega arith, omega arith)
      pick false = (omega arith, omega arith)

  pub steps-end : (at width : ℕ) → width ≤ 1 → Stepped l n at width → LastUpTo l n at
  steps-end at width h p = record { here = p.here; after = λ j g. p.after j (omega arith) }

  up-to-open : (x : ℕ) → is_up_to n x ≡ true → (0 < x) × (x ≤ n)
  unfolding is_up_to
  up-to-open x e = (some-pos x (and_l (some x) (leb x n) e), leb-true x n (and_r (some x) (leb x n) e))

  up-to-close : (x : ℕ) → 0 < x → x ≤ n → is_up_to n x ≡ true
  unfolding is_up_to
  up-to-close x h g = and_i (some x) (leb x n) (pos-some x h) (le-leb x n g)

  module _ (k : ℕ) (p : Numbers l k) where
    in-use : (j : ℕ) → 0 < get_or l j 0 → j < k
    in-use j h = ⊎_elim (λ lt. lt) (λ ge. let e : get_or l j 0 ≡ 0 = p.unused j ge in absurd (omega arith)) (lt-or-ge j k)

    pub numbers-front : UpToInFront l n
    unfolding Ascending
    numbers-front i j lt e =
        let (some-j, up) = up-to-open (get_or l j 0) e in
        let below : j < k = in-use j some-j in
        let less : get_or l i 0 < get_or l j 0 = p.rise i j lt below in
        up-to-close (get_or l i 0) (p.used i (omega arith)) (omega arith)

    -- where the last number up to n is not n, n is not there
    pub last_none : (last : ℕ) → LastUpTo l n last → (last < k → get_or l last 0 ≡ n → ⊥) → LastAt l k n None
    unfolding LastAt Ascending
    last_none last q other j h e =
        let some-j : 0 < get_or l j 0 = p.used j h in
        let up : is_up_to n (get_or l j 0) ≡ true = up-to-close (get_or l j 0) some-j (omega arith) in
        ⊎_elim (λ (lt : last < j). q.after j lt up)
        (λ (ge : j ≤ last).
        ⊎_elim (λ (same : j ≡ last). other (rw (← same) h) (rw (← same) e))
        (λ (less : j < last).
        let (some-last, at_most) = up-to-open (get_or l last 0) (q.here (omega arith)) in
        let more : get_or l j 0 < get_or l last 0 = p.rise j last less (in-use last some-last) in omega arith) (eq-or-lt_of_le ge)) (lt-or-ge last j)

-- a difference that wraps: one comparison tells a number up to n
pub wraps-up-to : (x n w : ℕ) → n < 2 ^ 32 → w < 2 ^ 32 → (w + 1) % 2 ^ 32 ≡ x → ltb w n ≡ is_up_to n x
wraps-up-to x n w h g e =
    bool_eq (ltb w n) (is_up_to n x) (λ t. let less : w < n = ltb-true w n t in up-to-close [] n x (omega arith) (omega arith))
    (λ t. let up = up-to-open [] n x t in lt-ltb w n (omega arith))

-- ---- the words before the first 0
pub leading-is : (l : List ℕ) (i : ℕ) → ((j : ℕ) → j < i → get_or l j 0 ≡ 0 → ⊥) → get_or l i 0 ≡ 0 → leading l ≡ i
unfolding leading some
leading-is [] zero h e = refl
leading-is [] (suc i) h e = absurd (h 0 (omega arith) refl)
leading-is (w ∷ l) zero h e = rw e refl
leading-is (w ∷ l) (suc i) h e =
    let x : w ≡ 0 → ⊥ = h 0 (omega arith) in
    rw (pos-some w (pos w x)) (ap suc (leading-is l i (λ j g. h (suc j) (suc-le-suc g)) e))
  where
    pos : (m : ℕ) → (m ≡ 0 → ⊥) → 0 < m
    pos m x = omega arith

pub leading_le : (l : List ℕ) → leading l ≤ length l
unfolding leading
leading_le [] = zero-le
leading_le (w ∷ l) = pick (leading_le l) (some w)
  where
    pick : leading l ≤ length l → (b : Bool) → cond b (suc (leading l)) 0 ≤ suc (length l)
    pick h true = suc-le-suc h
    pick h false = zero-le

-- the first position where a test holds, as std counts it
pub leading-first : (l : List ℕ) → position_or_len (λ w. eqb w 0) l ≡ leading l
unfolding leading some
leading-first [] = refl
leading-first (w ∷ l) = grind (arith, nat_tests, leading-first l)

-- by std's search for where the words that are not 0 end
used-test : (w : ℕ) → 0 < w → not (eqb w 0) ≡ true
used-test w h = grind (arith, nat_tests)

test-used : (w : ℕ) → not (eqb w 0) ≡ true → 0 < w
test-used w t = grind (arith, nat_tests)

test-zero : (w : ℕ) → not (eqb w 0) ≡ false → w ≡ 0
test-zero w t = grind (arith, nat_tests)

pub front-parted : (l : List ℕ) → UsedInFront l → IsPartitionedBy (λ w. not (eqb w 0)) l
front-parted l front i j d i≤j lt t =
    ⊎_elim (λ (e : i ≡ j). rw e t)
    (λ (less : i < j).
    let there : 0 < get_or l j 0 = rw (get_or_default l j d 0 lt) at (test-used (get_or l j d) t) in
    let within : i < length l = omega arith in
    used-test (get_or l i d) (rw (get_or_default l i d 0 within) (front i j less there))) (eq-or-lt_of_le i≤j)

pub front-point : (l : List ℕ) (i : ℕ) → i ≤ length l → IsPartitionPoint (λ w. not (eqb w 0) ≡ true) (λ w. not (eqb w 0) ≡ false) l i → i ≡ leading l
front-point l i le p = sym (leading-is l i (λ j lt z. let h : 0 < get_or l j 0 = test-used (get_or l j 0) (p.0 j 0 zero-le lt) in omega arith) (pick (lt-or-ge i (length l))))
  where
    pick : (i < length l) ⊎ (length l ≤ i) → get_or l i 0 ≡ 0
    pick (inl lt) = test-zero (get_or l i 0) (p.1 i 0 (omega arith) lt)
    pick (inr ge) = get_or-eq_default l 0 ge

-- numbers in use stand in front
pub numbers-used : (l : List ℕ) (k : ℕ) → Numbers l k → UsedInFront l
numbers-used l k p i j lt h = p.used i (let b : j < k = in-use l 0 k p j h in omega arith)

-- ---- what is found is the slot of the element with that key
module _ {A : Type 0} (key : A → ℕ) where
  -- the first words of l are the keys of the elements, the oldest first
  abbrev pub Keys : List ℕ → List A → Type 0
  Keys l [] = Unit {0}
  Keys l (x ∷ xs) = (get_or l (length xs) 0 ≡ key x) × Keys l xs

  pub last-slot : (l : List ℕ) (n : ℕ) (xs : List A) (r : Option ℕ) → Keys l xs → LastAt l (length xs) n r → r ≡ found_slot (slot_with key xs n)
  unfolding LastAt found_slot slot_with
  last-slot l n [] (Some i) ks p = absurd (omega (arith, p.0))
  last-slot l n [] None ks p = refl
  last-slot l n (x ∷ xs) (Some i) ks p = pick (last-slot l n xs (Some i) ks.1) (eqb (key x) n) refl
    where
      pick : (LastAt l (length xs) n (Some i) → Some i ≡ found_slot (slot_with key xs n)) → (b : Bool) → eqb (key x) n ≡ b → Some i ≡ found_slot (cond b (suc (length xs)) (slot_with key xs n))
      pick ih true q =
          ⊎_elim (λ e. ap Some e) (λ lt. absurd (p.2 (length xs) lt (omega arith) (ks.0 ∙ eqb-true (key x) n q))) (eq-or-lt_of_le (le_of_suc-le-suc p.0))
      pick ih false q =
          ⊎_elim (λ e. absurd (eqb-false (key x) n q (sym ks.0 ∙ ap (λ (j : ℕ). get_or l j 0) (sym e) ∙ p.1)))
          (λ lt. ih (lt, p.1, (λ j g h. p.2 j g (omega arith)))) (eq-or-lt_of_le (le_of_suc-le-suc p.0))
  last-slot l n (x ∷ xs) None ks p = pick (last-slot l n xs None ks.1) (eqb (key x) n) refl
    where
      pick : (LastAt l (length xs) n None → None ≡ found_slot (slot_with key xs n)) → (b : Bool) → eqb (key x) n ≡ b → None ≡ found_slot (cond b (suc (length xs)) (slot_with key xs n))
      pick ih true q = absurd (p (length xs) (omega arith) (ks.0 ∙ eqb-true (key x) n q))
      pick ih false q = ih (λ j h. p j (omega arith))

  -- each of these words is a key
  pub keys-member : (l : List ℕ) (xs : List A) → Keys l xs → (i : ℕ) → i < length xs → member (get_or l i 0) (map key xs) ≡ true
  keys-member l [] ks i h = absurd (omega arith)
  keys-member l (x ∷ xs) ks i h =
      ⊎_elim
      (λ e. subst (λ (n : ℕ). member n (key x ∷ map key xs) ≡ true) (sym (ap (λ (j : ℕ). get_or l j 0) e ∙ ks.0)) (member-here (key x) (map key xs)))
      (λ lt. member-there (get_or l i 0) (key x) (map key xs) (keys-member l xs ks.1 i lt)) (eq-or-lt_of_le (le_of_suc-le-suc h))

  pub keys-rise : (l : List ℕ) (xs : List A) → Keys l xs → rises key xs ≡ true → Ascending (length xs) l
  unfolding Ascending
  keys-rise l [] ks up = λ i j lt h. absurd (omega arith)
  keys-rise l (x ∷ xs) ks up =
      λ i j lt h.
      ⊎_elim
      (λ e. let d : get_or l j 0 ≡ key x = ap (λ (k : ℕ). get_or l k 0) e ∙ ks.0 in omega (arith, rises-older key x xs up (get_or l i 0) (keys-member l xs ks.1 i (omega arith))))
      (λ g. keys-rise l xs ks.1 (rises-rest key x xs up) i j lt g) (eq-or-lt_of_le (le_of_suc-le-suc h))

  -- the keys in a part of the words, known where each stands
  pub keys-part : (t : List ℕ) (a k : ℕ) (xs : List A) → length xs ≤ k
      → ((new : List A) (x : A) (old : List A) → xs ≡ new ++ (x ∷ old) → get_or t (a + length old) 0 ≡ key x) → Keys (take k (drop a t)) xs
  keys-part t a k xs few at = along [] xs refl
    where
      along : (new old : List A) → xs ≡ new ++ old → Keys (take k (drop a t)) old
      along new [] e = tt
      along new (x ∷ old) e = (
        get_or-take k (drop a t) (length old) 0 (omega (arith, ap length e, length-append new (x ∷ old))) ∙ get_or-drop a t (length old) 0 ∙ at new x old e,
        along (new ++ (x ∷ [])) old (e ∙ sym (append_assoc new (x ∷ []) old)),
      )
