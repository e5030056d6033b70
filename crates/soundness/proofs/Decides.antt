-- Answers that tell whether something holds: of tests, of two at once, and of each position that a loop has passed.
use Prim.Native.Nat.{ℕ, zero, suc, ◌+◌, ◌<◌, ◌≤◌}
use mathlib.Core.Bool.{Bool, true, ◌&&◌}
use mathlib.Core.List.{List}
use mathlib.Core.Path.{◌≡◌, refl, ap, subst, sym, ◌∙◌}
use mathlib.Core.Logic.{◌⊎◌, inl, inr, ⊎_elim}
use native.Mathlib.Nat.{eq-or-lt_of_le, le_trans}
use native.Mathlib.Decide.{dec_lt}
use native.Mathlib.Omega.{arith}
use borrow.Author.Tests.{eqb-true, eq-eqb, ltb-true, lt-ltb}
use lib.Dec.{ltb, eqb}
use lib.ListN.{length, get_or, take, drop, length-take, get_or-eq_default}
use lib.Seq.{get_or-take, get_or-drop}
use Rattle.rows.specs.vocabulary.Sizes.{ROWS, REQUESTS, SOURCE, VIA, Q-NUMBER}
use Rattle.soundness.specs.vocabulary.Laid.{Decides, before, Rising, Older, ZeroFrom, RowsUnused, RequestsUnused, RowsLaid, RequestsLaid}
use lib.Bits.{bit_or, or_add_and, and_le_l, and_le_r}
use Rattle.rows.proofs.Bools.{and_l, and_r, and_i, bool_eq}

lt-or-ge : (a b : ℕ) → (a < b) ⊎ (b ≤ a)
lt-or-ge a b = elim (dec_lt a b) [ yes h ↦ inl h | no h ↦ inr (omega arith) ]

pub decides_eqb : (a b : ℕ) → Decides (eqb a b) (a ≡ b)
decides_eqb a b = record { holds = eqb-true a b; says = eq-eqb a b }

pub decides_ltb : (a b : ℕ) → Decides (ltb a b) (a < b)
decides_ltb a b = record { holds = ltb-true a b; says = lt-ltb a b }

pub decides-as : {a : Bool} {p q : Type 0} → (p → q) → (q → p) → Decides a p → Decides a q
decides-as f g h = record { holds = λ e. f (h.holds e); says = λ x. h.says (g x) }

pub decides_and : (a b : Bool) {p q : Type 0} → Decides a p → Decides b q → Decides (a && b) (p × q)
decides_and a b h k =
    record { holds = λ e. (h.holds (and_l a b e), k.holds (and_r a b e)); says = λ x. and_i a b (h.says x.0) (k.says x.1) }

-- of each position from k to before i
abbrev pub Between : ℕ → ℕ → (ℕ → Type 0) → Type 0
Between k i P = (j : ℕ) → k ≤ j → j < i → P j

module _ (P : ℕ → Type 0) where
  pub decides-none : (k : ℕ) → Decides true (Between k k P)
  decides-none k = record { holds = λ e j lo hi. absurd (omega arith); says = λ x. refl }

  pub decides-more : (k i : ℕ) (a b : Bool) → k ≤ i → Decides a (Between k i P) → Decides b (P i) → Decides (a && b) (Between k (i + 1) P)
  decides-more k i a b le h here =
      decides-as
      (λ x j lo hi. let le : j ≤ i = omega arith in ⊎_elim (λ e. subst P (sym e) x.1) (λ lt. x.0 j lo lt) (eq-or-lt_of_le le))
      (λ x. ((λ j lo hi. x j lo (omega arith)), x i le (omega arith)))
      (decides_and a b h here)

-- ---- what the loops over a column answer
-- the bits of two words together are none exactly if each has none
pub or-zero : (a b : ℕ) → eqb (bit_or a b) 0 ≡ eqb a 0 && eqb b 0
or-zero a b =
    bool_eq (eqb (bit_or a b) 0) (eqb a 0 && eqb b 0)
    (λ e.
    let none = eqb-true (bit_or a b) 0 e in
    let sum = or_add_and a b in
    let le = and_le_l a b in
    let le' = and_le_r a b in
    and_i (eqb a 0) (eqb b 0) (eq-eqb a 0 (omega arith)) (eq-eqb b 0 (omega arith)))
    (λ e.
    let left = eqb-true a 0 (and_l (eqb a 0) (eqb b 0) e) in
    let right = eqb-true b 0 (and_r (eqb a 0) (eqb b 0) e) in
    let sum = or_add_and a b in
    eq-eqb (bit_or a b) 0 (omega arith))

pub decides-zero : (l : List ℕ) (k i : ℕ) (a : Bool) → length l ≤ i → Decides a (Between k i (λ j. get_or l j 0 ≡ 0)) → Decides a (ZeroFrom k l)
unfolding ZeroFrom
decides-zero l k i a h = decides-as (λ x j lo. ⊎_elim (λ lt. x j lo lt) (λ ge. get_or-eq_default l 0 (le_trans h ge)) (lt-or-ge j i)) (λ x j lo hi. x j lo)

-- from position 0 to the last of k
pub decides_below : (P : ℕ → Type 0) (k i : ℕ) (a : Bool) → i ≤ k → k ≤ i → Decides a (Between 0 i P) → Decides a ((j : ℕ) → j < k → P j)
decides_below P k i a le ge = decides-as (λ x j hi. x j (omega arith) (omega arith)) (λ x j lo hi. x j (omega arith))

-- a part of the words, from position a on, w of them, is 0 from its position n on; each of its words is named by where it stands
pub decides-part : (t : List ℕ) (n a v w : ℕ) (at : ℕ → ℕ) (b : Bool) → v ≡ w → ((i : ℕ) → a + i ≡ at i)
    → Decides b (ZeroFrom n (take v (drop a t))) → Decides b ((i : ℕ) → n ≤ i → i < w → get_or t (at i) 0 ≡ 0)
unfolding ZeroFrom
decides-part t n a v w at b e where-at =
    decides-as (λ x i lo hi. sym (stands i (omega arith)) ∙ x i lo)
    (λ x i lo.
    ⊎_elim (λ lt. stands i lt ∙ x i lo (omega arith)) (λ ge. get_or-eq_default (take v (drop a t)) 0 (short i ge)) (lt-or-ge i v))
  where
    stands : (i : ℕ) → i < v → get_or (take v (drop a t)) i 0 ≡ get_or t (at i) 0
    stands i h = get_or-take v (drop a t) i 0 h ∙ get_or-drop a t i 0 ∙ ap (λ (j : ℕ). get_or t j 0) (where-at i)

    short : (i : ℕ) → v ≤ i → length (take v (drop a t)) ≤ i
    short i h = omega (arith, length-take v (drop a t))

-- of each column, and in it of each slot
pub decides-columns : (P : ℕ → ℕ → Type 0) (n m w : ℕ) (b : Bool)
    → Decides b ((c : ℕ) → c < m → (i : ℕ) → n ≤ i → i < w → P c i) → Decides b ((c i : ℕ) → c < m → n ≤ i → i < w → P c i)
decides-columns P n m w b = decides-as (λ x c i h. x c h i) (λ x c h i. x c i h)

-- ---- the rows, the requests
before-take : (l : List ℕ) (w i : ℕ) → i < w → before (take w l) i ≡ before l i
unfolding before
before-take l w zero h = refl
before-take l w (suc i) h = get_or-take w l i 0 (omega arith)

rising-take : (l : List ℕ) (k w : ℕ) (b : Bool) → k ≤ w → Decides b (Rising k (take w l)) → Decides b (Rising k l)
unfolding Rising
rising-take l k w b h =
    decides-as (λ x i lt. let le : i < w = omega arith in let y = x i lt in omega (arith, before-take l w i le, get_or-take w l i 0 le))
    (λ x i lt. let le : i < w = omega arith in let y = x i lt in omega (arith, before-take l w i le, get_or-take w l i 0 le))

older-take : (t : List ℕ) (a k w : ℕ) (b : Bool) → k ≤ w → Decides b (Older k (take w (drop a t))) → Decides b ((i : ℕ) → i < k → get_or t (a + i) 0 ≤ i)
unfolding Older
older-take t a k w b h =
    decides-as (λ x i lt. let y = x i lt in omega (arith, get_or-take w (drop a t) i 0 (le_trans lt h), get_or-drop a t i 0))
    (λ x i lt. let y = x i lt in omega (arith, get_or-take w (drop a t) i 0 (le_trans lt h), get_or-drop a t i 0))

pub decides-rows : (t : List ℕ) (n : ℕ) (a b c d : Bool) → n ≤ ROWS → Decides a (Rising n (take ROWS t)) → Decides b (Older n (take ROWS (drop SOURCE t)))
    → Decides c (Older n (take ROWS (drop VIA t))) → Decides d (RowsUnused t n) → Decides (a && (b && (c && d))) (RowsLaid t n)
decides-rows t n a b c d few up old via none =
    decides-as (λ x. record { numbers = x.0; sources = x.1.0; vias = x.1.1.0; unused = x.1.1.1 }) (λ x. (x.numbers, (x.sources, (x.vias, x.unused))))
    (decides_and a (b && (c && d)) (rising-take t n ROWS a few up)
    (decides_and b (c && d) (older-take t SOURCE n ROWS b few old) (decides_and c d (older-take t VIA n ROWS c few via) none)))

pub decides-requests : (t : List ℕ) (m : ℕ) (a b : Bool) → m ≤ REQUESTS → Decides a (Rising m (take REQUESTS (drop Q-NUMBER t)))
    → Decides b (RequestsUnused t m) → Decides (a && b) (RequestsLaid t m)
decides-requests t m a b few up none =
    decides-as (λ x. record { numbers = x.0; unused = x.1 }) (λ x. (x.numbers, x.unused))
    (decides_and a b (rising-take (drop Q-NUMBER t) m REQUESTS a few up) none)
