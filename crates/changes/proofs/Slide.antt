-- Words moved down in one column, a run of them or those of listed slots, and what that does to the words passed.
use Prim.Native.Nat.{ℕ, zero, suc, ◌+◌, ◌-◌, ◌<◌, ◌≤◌, zero-le}
use mathlib.Core.Bool.{Bool, true, false, false≢true}
use mathlib.Core.List.{List, [], ◌∷◌, ◌++◌, append_assoc, append-nil}
use mathlib.Core.Path.{◌≡◌, refl, ap, sym, subst, ◌∙◌}
use mathlib.Core.Logic.{⊎_elim}
use native.Mathlib.Nat.{add-zero, le_refl, eq-or-lt_of_le}
use native.Mathlib.Numerals.{add-one}
use native.Mathlib.Omega.{arith}
use lib.ListN.{length, get_or, take, drop, set, length-append, length-drop, take-append-drop}
use lib.Seq.{take-suc, take_at, drop_at, drop-cons, drop-drop, get_or-drop, set_at, length-take-le}
use Rattle.rows.specs.Lists.{pad}
use Rattle.changes.specs.vocabulary.Marks.{keep, compacted, slid, cleared, picked, gathered, Passed, lefts, Lists, NoneMarked, AllMarked, EndsAt}
use Rattle.changes.proofs.Keep.{length-pad, keep-skip, keep-take, keep-unmarked}
use Rattle.changes.proofs.Lefts.{left-more, marked_more, lefts-up}

-- ---- lists that are the same from a position on
drops-on : (i e : ℕ) (l l₀ : List ℕ) → i ≤ e → drop i l ≡ drop i l₀ → drop e l ≡ drop e l₀
drops-on i e l l₀ h same =
    let on : i + (e - i) ≡ e = omega arith in
    subst (λ (x : ℕ). drop x l ≡ drop x l₀) on (sym (drop-drop (e - i) i l) ∙ ap (drop (e - i)) same ∙ drop-drop (e - i) i l₀)

same_from : (i : ℕ) (l l₀ : List ℕ) → drop i l ≡ drop i l₀ → (x : ℕ) → i ≤ x → get_or l x 0 ≡ get_or l₀ x 0
same_from i l l₀ same x h =
    sym (rw add-zero at (get_or-drop x l 0 0)) ∙ ap (λ (t : List ℕ). get_or t 0 0) (drops-on i x l l₀ h same) ∙ (rw add-zero at (get_or-drop x l₀ 0 0))

-- ---- k words put in the place of others, from a position on
module _ (l : List ℕ) (to : ℕ) (p : List ℕ) (k : ℕ) (long : length p ≡ k) (room : to + k ≤ length l) where
  abbrev placed : List ℕ
  placed = take to l ++ (p ++ drop (to + k) l)

  placed-front : placed ≡ (take to l ++ p) ++ drop (to + k) l
  placed-front = sym (append_assoc (take to l) p (drop (to + k) l))

  length_front : length (take to l ++ p) ≡ to + k
  length_front = length-append (take to l) p ∙ omega (arith, length-take-le to l (omega arith))

  pub length-placed : length placed ≡ length l
  length-placed = ap length placed-front ∙ length-append (take to l ++ p) (drop (to + k) l) ∙ omega (arith, length_front, length-drop (to + k) l)

  placed-rest : drop (to + k) placed ≡ drop (to + k) l
  placed-rest = ap (drop (to + k)) placed-front ∙ drop_at (take to l ++ p) (drop (to + k) l) (to + k) length_front

  pub placed-beyond : (i : ℕ) → to + k ≤ i → drop i placed ≡ drop i l
  placed-beyond i b = drops-on (to + k) i placed l b placed-rest

  pub placed-within : take (to + k) placed ≡ take to l ++ p
  placed-within = ap (take (to + k)) placed-front ∙ take_at (take to l ++ p) (drop (to + k) l) (to + k) length_front

  pub placed-word : (i : ℕ) → to + k ≤ i → get_or placed i 0 ≡ get_or l i 0
  placed-word i b = same_from (to + k) placed l placed-rest i b

  -- a word more
  pub placed-turn : to + k < length l → (w : ℕ) → set placed (to + k) w ≡ take to l ++ ((p ++ (w ∷ [])) ++ drop (to + suc k) l)
  placed-turn h w =
      let e : suc (to + k) ≡ to + suc k = omega arith in
      ap (λ (t : List ℕ). set t (to + k) w) (placed-front ∙ ap (λ (t : List ℕ). (take to l ++ p) ++ t) (drop-cons l (to + k) 0 h))
      ∙ set_at (take to l ++ p) (get_or l (to + k) 0) (drop (suc (to + k)) l) w (to + k) length_front
      ∙ append_assoc (take to l) p (w ∷ drop (suc (to + k)) l)
      ∙ ap (λ (t : List ℕ). take to l ++ t) (sym (append_assoc p (w ∷ []) (drop (suc (to + k)) l)))
      ∙ ap (λ (i : ℕ). take to l ++ ((p ++ (w ∷ [])) ++ drop i l)) e

nothing_placed : (l : List ℕ) (to : ℕ) → take to l ++ drop (to + 0) l ≡ l
nothing_placed l to = ap (λ (i : ℕ). take to l ++ drop i l) (add-zero to) ∙ take-append-drop to l

-- ---- a run moved down
module _ (l : List ℕ) (to from : ℕ) (down : to ≤ from) where
  abbrev run : ℕ → List ℕ
  run k = take k (drop from l)

  long-run : (k : ℕ) → from + k ≤ length l → length (run k) ≡ k
  long-run k h = length-take-le k (drop from l) (omega (arith, length-drop from l))

  pub length-slid : (k : ℕ) → from + k ≤ length l → length (slid to from k l) ≡ length l
  unfolding slid
  length-slid k h = length-placed l to (run k) k (long-run k h) (omega arith)

  slid-beyond : (k i : ℕ) → from + k ≤ length l → to + k ≤ i → drop i (slid to from k l) ≡ drop i l
  unfolding slid
  slid-beyond k i h b = placed-beyond l to (run k) k (long-run k h) (omega arith) i b

  slid-within : (k : ℕ) → from + k ≤ length l → take (to + k) (slid to from k l) ≡ take to l ++ run k
  unfolding slid
  slid-within k h = placed-within l to (run k) k (long-run k h) (omega arith)

  -- the loop that moves it: a word more
  pub slid-start : slid to from 0 l ≡ l
  unfolding slid
  slid-start = nothing_placed l to

  run_more : (k : ℕ) → from + k < length l → run (suc k) ≡ run k ++ (get_or l (from + k) 0 ∷ [])
  run_more k h = take-suc (drop from l) k 0 (omega (arith, length-drop from l)) ∙ ap (λ (w : ℕ). run k ++ (w ∷ [])) (get_or-drop from l k 0)

  pub slid-turn : (k : ℕ) → from + k < length l → set (slid to from k l) (to + k) (get_or (slid to from k l) (from + k) 0) ≡ slid to from (k + 1) l
  unfolding slid
  slid-turn k h =
      let long = long-run k (omega arith) in
      rw (add-one k)
      (ap (λ (v : ℕ). set (slid to from k l) (to + k) v) (placed-word l to (run k) k long (omega arith) (from + k) (omega arith))
      ∙ placed-turn l to (run k) k long (omega arith) (omega arith) (get_or l (from + k) 0)
      ∙ ap (λ (t : List ℕ). take to l ++ (t ++ drop (to + suc k) l)) (sym (run_more k h)))

-- ---- the words of listed slots moved down
module _ (l : List ℕ) (to : ℕ) (slots : List ℕ) where
  length-picked : (n : ℕ) → length (picked slots n l) ≡ n
  unfolding picked
  length-picked zero = refl
  length-picked (suc n) = length-append (picked slots n l) (get_or l (get_or slots n 0) 0 ∷ []) ∙ omega (arith, length-picked n)

  pub length-gathered : (n : ℕ) → to + n ≤ length l → length (gathered to slots n l) ≡ length l
  unfolding gathered
  length-gathered n h = length-placed l to (picked slots n l) n (length-picked n) h

  gathered-beyond : (n i : ℕ) → to + n ≤ length l → to + n ≤ i → drop i (gathered to slots n l) ≡ drop i l
  unfolding gathered
  gathered-beyond n i h b = placed-beyond l to (picked slots n l) n (length-picked n) h i b

  gathered-within : (n : ℕ) → to + n ≤ length l → take (to + n) (gathered to slots n l) ≡ take to l ++ picked slots n l
  unfolding gathered
  gathered-within n h = placed-within l to (picked slots n l) n (length-picked n) h

  -- the loop that moves them: a word more
  pub gathered-start : gathered to slots 0 l ≡ l
  unfolding gathered picked
  gathered-start = nothing_placed l to

  pub gathered-turn : (k : ℕ) → to + k ≤ get_or slots k 0 → get_or slots k 0 < length l
      → set (gathered to slots k l) (to + k) (get_or (gathered to slots k l) (get_or slots k 0) 0) ≡ gathered to slots (k + 1) l
  unfolding gathered picked
  gathered-turn k ahead within =
      rw (add-one k)
      (ap (λ (v : ℕ). set (gathered to slots k l) (to + k) v) (placed-word l to (picked slots k l) k (length-picked k) (omega arith) (get_or slots k 0) ahead)
      ∙ placed-turn l to (picked slots k l) k (length-picked k) (omega arith) (omega arith) (get_or l (get_or slots k 0) 0))

pub length-cleared : (from to : ℕ) (l : List ℕ) → from ≤ to → to ≤ length l → length (cleared from to l) ≡ length l
unfolding cleared
length-cleared from to l h k =
    length-append (pad 0 to (take from l)) (drop to l)
    ∙ omega (arith, length-pad 0 to (take from l) (omega (arith, length-take-le from l (omega arith))), length-drop to l)

-- ---- what is passed
module _ (ms : List Bool) (l₀ : List ℕ) where
  pub passed_start : (n : ℕ) → NoneMarked ms 0 n → Passed ms l₀ l₀ n n
  passed_start n clear =
      record { long = refl; back = le_refl n; front = sym (keep-unmarked ms l₀ n (λ i h. clear i zero-le h)); rest = refl }

  keep-skips : (i n : ℕ) → i + n ≤ length l₀ → AllMarked ms i (i + n) → keep ms (take (i + n) l₀) ≡ keep ms (take i l₀)
  keep-skips i zero h f = ap (λ (x : ℕ). keep ms (take x l₀)) (add-zero i)
  keep-skips i (suc n) h f =
      let e : i + suc n ≡ suc (i + n) = omega arith in
      ap (λ (x : ℕ). keep ms (take x l₀)) e
      ∙ keep-skip ms l₀ (i + n) (omega arith) (f (i + n) (omega arith) (omega arith))
      ∙ keep-skips i n (omega arith) (λ k a b. f k a (omega arith))

  keep-takes : (i n : ℕ) → i + n ≤ length l₀ → NoneMarked ms i (i + n) → keep ms (take (i + n) l₀) ≡ keep ms (take i l₀) ++ take n (drop i l₀)
  keep-takes i zero h f = ap (λ (x : ℕ). keep ms (take x l₀)) (add-zero i) ∙ sym (append-nil (keep ms (take i l₀)))
  keep-takes i (suc n) h f =
      let e : i + suc n ≡ suc (i + n) = omega arith in
      let kept : List ℕ = keep ms (take i l₀) in
      ap (λ (x : ℕ). keep ms (take x l₀)) e
      ∙ keep-take 0 ms l₀ (i + n) (omega arith) (f (i + n) (omega arith) (omega arith))
      ∙ ap (λ (t : List ℕ). t ++ (get_or l₀ (i + n) 0 ∷ [])) (keep-takes i n (omega arith) (λ k a b. f k a (omega arith)))
      ∙ append_assoc kept (take n (drop i l₀)) (get_or l₀ (i + n) 0 ∷ [])
      ∙ ap (λ (w : ℕ). kept ++ (take n (drop i l₀) ++ (w ∷ []))) (sym (get_or-drop i l₀ n 0))
      ∙ ap (λ (t : List ℕ). kept ++ t) (sym (take-suc (drop i l₀) n 0 (omega (arith, length-drop i l₀))))

  module _ (l : List ℕ) (i j : ℕ) (p : Passed ms l₀ l i j) where
    drops : (n : ℕ) → drop (i + n) l ≡ drop (i + n) l₀
    drops n = drops-on i (i + n) l l₀ (omega arith) p.rest

    passed-marked : (n : ℕ) → i + n ≤ length l₀ → AllMarked ms i (i + n) → Passed ms l₀ l (i + n) j
    passed-marked n h f =
        record { long = p.long; back = omega (arith, p.back); front = p.front ∙ sym (keep-skips i n h f); rest = drops n }

    passed-left : (n : ℕ) → i + n ≤ length l₀ → NoneMarked ms i (i + n) → Passed ms l₀ (slid j i n l) (i + n) (j + n)
    passed-left n h f =
        let room : i + n ≤ length l = omega (arith, p.long) in
        record {
          long = length-slid l j i p.back n room ∙ p.long;
          back = omega (arith, p.back);
          front =
              slid-within l j i p.back n room
              ∙ ap (λ (t : List ℕ). t ++ take n (drop i l)) p.front
              ∙ ap (λ (t : List ℕ). keep ms (take i l₀) ++ take n t) p.rest
              ∙ sym (keep-takes i n h f);
          rest = slid-beyond l j i p.back n (i + n) room (omega (arith, p.back)) ∙ drops n;
        }

    pub passed-skip : (a : ℕ) → i ≤ a → a ≤ length l₀ → AllMarked ms i a → Passed ms l₀ l a j
    passed-skip a h room f =
        let e : i + (a - i) ≡ a = omega arith in
        subst (λ (x : ℕ). Passed ms l₀ l x j) e (passed-marked (a - i) (omega arith) (λ k u v. f k u (omega arith)))

-- a run that is not marked is passed, up to e
pub passed-run : (ms : List Bool) (l₀ l : List ℕ) (i j e : ℕ) → Passed ms l₀ l i j → i ≤ e → e ≤ length l₀
    → NoneMarked ms i e → Passed ms l₀ (slid j i (e - i) l) e (j + (e - i))
passed-run ms l₀ l i j e p h room f =
    let q : i + (e - i) ≡ e = omega arith in
    subst (λ (x : ℕ). Passed ms l₀ (slid j i (e - i) l) x (j + (e - i))) q
    (passed-left ms l₀ l i j p (e - i) (omega arith) (λ n u v. f n u (omega arith)))

-- the slots from i up to e that are left are listed, and passed
module _ (ms : List Bool) (l₀ l : List ℕ) (i j e : ℕ) (p : Passed ms l₀ l i j) (slots : List ℕ) (n : ℕ) (q : Lists ms i e slots n) (room : e ≤ length l₀) where
  -- they are where they were
  same-picked : (x : ℕ) → x ≤ n → picked slots x l ≡ picked slots x l₀
  unfolding picked
  same-picked zero h = refl
  same-picked (suc x) h =
      ap (λ (t : List ℕ). t ++ (get_or l (get_or slots x 0) 0 ∷ [])) (same-picked x (omega arith))
      ∙ ap (λ (w : ℕ). picked slots x l₀ ++ (w ∷ [])) (same_from i l l₀ p.rest (get_or slots x 0) (omega (arith, q.ahead x (omega arith))))

  -- up to each slot between, those that are kept are the words of as many listed slots as are left
  keep-listed : (y : ℕ) → i + y ≤ e → keep ms (take (i + y) l₀) ≡ keep ms (take i l₀) ++ picked slots (lefts ms (i + y) - lefts ms i) l₀
  unfolding picked
  keep-listed zero h =
      let none : lefts ms (i + 0) - lefts ms i ≡ 0 = omega (arith, ap (lefts ms) (add-zero i)) in
      ap (λ (x : ℕ). keep ms (take x l₀)) (add-zero i)
      ∙ sym (append-nil (keep ms (take i l₀)))
      ∙ ap (λ (x : ℕ). keep ms (take i l₀) ++ picked slots x l₀) (sym none)
  keep-listed (suc y) h =
      let more : i + suc y ≡ suc (i + y) = omega arith in
      subst (λ (x : ℕ). keep ms (take x l₀) ≡ keep ms (take i l₀) ++ picked slots (lefts ms x - lefts ms i) l₀) (sym more)
      (pick (get_or ms (i + y) false) refl (keep-listed y (omega arith)))
    where
      pick : (b : Bool) → get_or ms (i + y) false ≡ b → keep ms (take (i + y) l₀) ≡ keep ms (take i l₀) ++ picked slots (lefts ms (i + y) - lefts ms i) l₀
          → keep ms (take (suc (i + y)) l₀) ≡ keep ms (take i l₀) ++ picked slots (lefts ms (suc (i + y)) - lefts ms i) l₀
      pick true b ih =
          keep-skip ms l₀ (i + y) (omega arith) b ∙ ih
          ∙ ap (λ (x : ℕ). keep ms (take i l₀) ++ picked slots (x - lefts ms i) l₀) (sym (marked_more ms (i + y) b))
      pick false b ih =
          let x : ℕ = lefts ms (i + y) - lefts ms i in
          let more : lefts ms (suc (i + y)) - lefts ms i ≡ suc x = omega (arith, left-more ms (i + y) b, lefts-up ms i (i + y) (omega arith)) in
          keep-take 0 ms l₀ (i + y) (omega arith) b
          ∙ ap (λ (t : List ℕ). t ++ (get_or l₀ (i + y) 0 ∷ [])) ih
          ∙ append_assoc (keep ms (take i l₀)) (picked slots x l₀) (get_or l₀ (i + y) 0 ∷ [])
          ∙ ap (λ (s : ℕ). keep ms (take i l₀) ++ (picked slots x l₀ ++ (get_or l₀ s 0 ∷ []))) (sym (q.listed (i + y) (omega arith) (omega arith) b))
          ∙ ap (λ (z : ℕ). keep ms (take i l₀) ++ picked slots z l₀) (sym more)

  pub passed-listed : Passed ms l₀ (gathered j slots n l) e (j + n)
  passed-listed =
      let fits : j + n ≤ length l = omega (arith, p.back, p.long, q.few) in
      let all : i + (e - i) ≡ e = omega (arith, q.few) in
      let many : lefts ms (i + (e - i)) - lefts ms i ≡ n = omega (arith, ap (lefts ms) all, q.number) in
      record {
        long = length-gathered l j slots n fits ∙ p.long;
        back = omega (arith, p.back, q.few);
        front =
            gathered-within l j slots n fits
            ∙ ap (λ (t : List ℕ). t ++ picked slots n l) p.front
            ∙ ap (λ (t : List ℕ). keep ms (take i l₀) ++ t) (same-picked n (le_refl n))
            ∙ ap (λ (x : ℕ). keep ms (take i l₀) ++ picked slots x l₀) (sym many)
            ∙ sym (keep-listed (e - i) (omega arith))
            ∙ ap (λ (x : ℕ). keep ms (take x l₀)) all;
        rest = gathered-beyond l j slots n e fits (omega (arith, p.back, q.few)) ∙ drops-on i e l l₀ (omega (arith, q.few)) p.rest;
      }

pub passed-end : (ms : List Bool) (n : ℕ) (l₀ l : List ℕ) (j : ℕ) → Passed ms l₀ l n j → cleared j n l ≡ compacted ms n l₀
unfolding cleared compacted
passed-end ms n l₀ l j p =
    ap (λ (t : List ℕ). pad 0 n t ++ drop n l) p.front ∙ ap (λ (t : List ℕ). pad 0 n (keep ms (take n l₀)) ++ t) p.rest

-- a marked run and one that is not, among the first n: one slot at least is passed
pub run-forth : (ms : List Bool) (n i a e : ℕ) → i < n → EndsAt ms false i n a → EndsAt ms true a n e → i < e
run-forth ms n i a e h marked clear =
    ⊎_elim
    (λ (same : a ≡ e).
    ⊎_elim (λ (last : a ≡ n). omega (arith, clear.after))
    (λ (lt : a < n). absurd (false≢true (sym (marked.stops lt) ∙ ap (λ (y : ℕ). get_or ms y false) same ∙ clear.stops (omega arith))))
    (eq-or-lt_of_le marked.within))
    (λ (lt : a < e). omega (arith, marked.after))
    (eq-or-lt_of_le clear.after)
