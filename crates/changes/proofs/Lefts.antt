-- How many of the first slots are marked, and how many are left: both counts over a run of slots, what equal counts say,
-- and the list of the slots that are left.
use Prim.Native.Nat.{ℕ, zero, suc, ◌+◌, ◌-◌, ◌<◌, ◌≤◌, zero-le}
use mathlib.Core.Bool.{Bool, true, false, cond, false≢true}
use mathlib.Core.List.{List}
use mathlib.Core.Path.{◌≡◌, refl, ap, sym, subst, ◌∙◌}
use mathlib.Core.Logic.{⊎_elim}
use native.Mathlib.Nat.{add-zero, eq-or-lt_of_le, le_of_suc-le-suc}
use native.Mathlib.Numerals.{add-one}
use native.Mathlib.Omega.{arith}
use lib.ListN.{length, get_or, set, take}
use lib.Seq.{get_or-set_same, get_or-set_other, get_or-take}
use Rattle.changes.specs.vocabulary.Bits.{gones}
use Rattle.changes.specs.vocabulary.Marks.{NoneMarked, AllMarked, lefts, Lists}

module _ (ms : List Bool) where
  -- ---- one slot more
  pub left-more : (i : ℕ) → get_or ms i false ≡ false → lefts ms (suc i) ≡ suc (lefts ms i)
  unfolding lefts
  left-more i e = ap (λ (b : Bool). cond b (lefts ms i) (suc (lefts ms i))) e

  pub marked_more : (i : ℕ) → get_or ms i false ≡ true → lefts ms (suc i) ≡ lefts ms i
  unfolding lefts
  marked_more i e = ap (λ (b : Bool). cond b (lefts ms i) (suc (lefts ms i))) e

  pub lefts-step : (i : ℕ) → (lefts ms i ≤ lefts ms (suc i)) × (lefts ms (suc i) ≤ suc (lefts ms i))
  unfolding lefts
  lefts-step i = pick (get_or ms i false)
    where
      pick : (b : Bool) → (lefts ms i ≤ cond b (lefts ms i) (suc (lefts ms i))) × (cond b (lefts ms i) (suc (lefts ms i)) ≤ suc (lefts ms i))
      pick true = omega arith
      pick false = omega arith

  pub lefts-le : (i : ℕ) → lefts ms i ≤ i
  unfolding lefts
  lefts-le zero = zero-le
  lefts-le (suc i) = omega (arith, lefts-le i, (lefts-step i).1)

  -- marked and left make all
  pub gones-lefts : (i : ℕ) → gones ms i + lefts ms i ≡ i
  unfolding gones lefts
  gones-lefts zero = refl
  gones-lefts (suc i) = pick (get_or ms i false) (gones-lefts i)
    where
      pick : (b : Bool) → gones ms i + lefts ms i ≡ i → cond b (suc (gones ms i)) (gones ms i) + cond b (lefts ms i) (suc (lefts ms i)) ≡ suc i
      pick true e = omega arith
      pick false e = omega arith

  -- ---- a run
  on : (i n : ℕ) → lefts ms i ≤ lefts ms (i + n)
  on i zero = omega (arith, ap (lefts ms) (add-zero i))
  on i (suc n) = let e : i + suc n ≡ suc (i + n) = omega arith in omega (arith, ap (lefts ms) e, on i n, (lefts-step (i + n)).0)

  pub lefts-up : (i n : ℕ) → i ≤ n → lefts ms i ≤ lefts ms n
  lefts-up i n h = let e : i + (n - i) ≡ n = omega arith in omega (arith, ap (lefts ms) e, on i (n - i))

  run-left : (i n : ℕ) → NoneMarked ms i (i + n) → lefts ms (i + n) ≡ lefts ms i + n
  run-left i zero f = ap (lefts ms) (add-zero i) ∙ sym (add-zero (lefts ms i))
  run-left i (suc n) f =
      let e : i + suc n ≡ suc (i + n) = omega arith in
      ap (lefts ms) e ∙ left-more (i + n) (f (i + n) (omega arith) (omega arith)) ∙ omega (arith, run-left i n (λ x a b. f x a (omega arith)))

  pub lefts-run : (i n : ℕ) → i ≤ n → NoneMarked ms i n → lefts ms n ≡ lefts ms i + (n - i)
  lefts-run i n h f =
      let e : i + (n - i) ≡ n = omega arith in
      sym (ap (lefts ms) e) ∙ run-left i (n - i) (λ x a b. f x a (omega arith))

  run-marked : (i n : ℕ) → AllMarked ms i (i + n) → lefts ms (i + n) ≡ lefts ms i
  run-marked i zero f = ap (lefts ms) (add-zero i)
  run-marked i (suc n) f =
      let e : i + suc n ≡ suc (i + n) = omega arith in
      ap (lefts ms) e ∙ marked_more (i + n) (f (i + n) (omega arith) (omega arith)) ∙ run-marked i n (λ x a b. f x a (omega arith))

  pub lefts-marked : (i n : ℕ) → i ≤ n → AllMarked ms i n → lefts ms n ≡ lefts ms i
  lefts-marked i n h f =
      let e : i + (n - i) ≡ n = omega arith in
      sym (ap (lefts ms) e) ∙ run-marked i (n - i) (λ x a b. f x a (omega arith))

  -- where nothing is marked before them, slots stay
  pub lefts-clear : (n i : ℕ) → NoneMarked ms 0 n → i ≤ n → lefts ms i ≡ i
  unfolding lefts
  lefts-clear n i clear h = lefts-run 0 i zero-le (λ x a b. clear x a (omega arith)) ∙ omega arith

  -- ---- what counts say: fewer are left, so there are slots between; no more are left, so all between are marked
  pub still-some : (i n : ℕ) → i ≤ n → lefts ms i < lefts ms n → i < n
  still-some i n h few =
      ⊎_elim (λ (e : i ≡ n). absurd (omega (arith, ap (lefts ms) e))) (λ (lt : i < n). lt) (eq-or-lt_of_le h)

  pub all-marked : (i n : ℕ) → lefts ms n ≤ lefts ms i → AllMarked ms i n
  all-marked i n few x a b = pick (get_or ms x false) refl
    where
      pick : (m : Bool) → get_or ms x false ≡ m → m ≡ true
      pick true e = refl
      pick false e = absurd (omega (arith, left-more x e, lefts-up i x a, lefts-up (suc x) n b))

-- the list, without what stands after it
pub lists-front : (ms : List Bool) (from end : ℕ) (slots : List ℕ) (n : ℕ) → n ≤ length slots → Lists ms from end slots n → Lists ms from end (take n slots) n
lists-front ms from end slots n room p =
    record {
      number = p.number;
      few = p.few;
      ahead = λ x h. rw (get_or-take n slots x 0 h) (p.ahead x h);
      listed =
          λ i a b out.
          let here : lefts ms i - lefts ms from < n = omega (arith, p.number, left-more ms i out, lefts-up ms (suc i) end b, lefts-up ms from i a) in
          rw (get_or-take n slots (lefts ms i - lefts ms from) 0 here) (p.listed i a b out);
    }

-- ---- the loop that lists the slots that are left, from one on
module _ (ms : List Bool) (from : ℕ) where
  pub lists-start : (slots : List ℕ) → Lists ms from from slots 0
  lists-start slots =
      record {
        number = sym (add-zero (lefts ms from));
        few = omega arith;
        ahead = λ x h. absurd (omega arith);
        listed = λ i a b out. absurd (omega arith);
      }

  module _ (slots : List ℕ) (i n : ℕ) (p : Lists ms from i slots n) (room : n < length slots) where
    -- the word n is written over: what is listed stays
    listed-before : (x : ℕ) → from ≤ x → x < i → get_or ms x false ≡ false → get_or (set slots n i) (lefts ms x - lefts ms from) 0 ≡ x
    listed-before x a b out =
        get_or-set_other slots n (lefts ms x - lefts ms from) i 0
        (λ e. absurd (omega (arith, p.number, left-more ms x out, lefts-up ms (suc x) i b, lefts-up ms from x a)))
        ∙ p.listed x a b out

    ahead_before : (x : ℕ) → x < n → (from + x ≤ get_or (set slots n i) x 0) × (get_or (set slots n i) x 0 < suc i)
    ahead_before x a =
        let same : get_or (set slots n i) x 0 ≡ get_or slots x 0 = get_or-set_other slots n x i 0 (λ e. omega arith) in
        let was = p.ahead x a in
        (omega (arith, same, was.0), omega (arith, same, was.1))

    pub lists-marked : get_or ms i false ≡ true → Lists ms from (i + 1) (set slots n i) n
    lists-marked out =
        rw (add-one i)
        (record {
          number = marked_more ms i out ∙ p.number;
          few = omega (arith, p.few);
          ahead = ahead_before;
          listed = λ x a b left.
              ⊎_elim (λ (e : x ≡ i). absurd (false≢true (sym left ∙ ap (λ (y : ℕ). get_or ms y false) e ∙ out)))
              (λ (lt : x < i). listed-before x a lt left)
              (eq-or-lt_of_le (le_of_suc-le-suc b));
        })

    pub lists-left : get_or ms i false ≡ false → Lists ms from (i + 1) (set slots n i) (n + 1)
    lists-left out =
        let here : get_or (set slots n i) n 0 ≡ i = get_or-set_same slots n i 0 room in
        let at_n : lefts ms i - lefts ms from ≡ n = omega (arith, p.number) in
        rw (add-one i)
        (record {
          number = left-more ms i out ∙ omega (arith, p.number);
          few = omega (arith, p.few);
          ahead = λ x a.
              ⊎_elim
              (λ (e : x ≡ n). subst (λ (y : ℕ). (from + y ≤ get_or (set slots n i) y 0) × (get_or (set slots n i) y 0 < suc i)) (sym e) (omega (arith, here, p.few), omega (arith, here)))
              (λ (lt : x < n). ahead_before x lt)
              (eq-or-lt_of_le (omega arith));
          listed = λ x a b left.
              ⊎_elim
              (λ (e : x ≡ i). subst (λ (y : ℕ). get_or (set slots n i) (lefts ms y - lefts ms from) 0 ≡ y) (sym e) (ap (λ (k : ℕ). get_or (set slots n i) k 0) at_n ∙ here))
              (λ (lt : x < i). listed-before x a lt left)
              (eq-or-lt_of_le (le_of_suc-le-suc b));
        })
