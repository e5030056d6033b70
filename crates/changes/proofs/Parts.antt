-- Columns one after the other, as parts of one run of words: a part that is lent, all parts changed in the same way, runs
-- of slots passed in all of them, and columns of laid words. Over any number of slots and any words.
use Prim.Native.Nat.{ℕ, zero, suc, ◌+◌, ◌-◌, ◌*◌, ◌<◌, ◌≤◌}
use mathlib.Core.Bool.{Bool}
use mathlib.Core.List.{List, [], ◌++◌, append_assoc, append-nil}
use mathlib.Core.Path.{◌≡◌, refl, ap, sym, subst, ◌∙◌}
use mathlib.Core.Logic.{⊎_elim}
use native.Mathlib.Nat.{not-suc-le-zero, le_of_suc-le-suc, eq-or-lt_of_le, suc-mul, mul-le-mul_right}
use native.Mathlib.Numerals.{add-one}
use native.Mathlib.Omega.{arith}
use lib.ListN.{length, take, drop, length-append, length-drop, take-append-drop}
use lib.Seq.{take_at, drop_at, drop-drop, drop-length, length-take-le, take-append-le, drop-append-le}
use Rattle.rows.specs.Lists.{pad, laid}
use Rattle.changes.specs.vocabulary.Marks.{compacted, slid, cleared, gathered, on_parts, Passed, part, Moved, Lists, NoneMarked, AllMarked}
use Rattle.rows.proofs.LayoutColumns.{columns, length-columns}
use Rattle.changes.proofs.Keep.{length-pad, length-laid}
use Rattle.changes.proofs.Slide.{length-slid, length-gathered, length-cleared, passed_start, passed-skip, passed-run, passed-listed, passed-end}

-- ---- a part that is lent: k words from the i-th on
module _ (a b c t : List ℕ) (i k : ℕ) (e : t ≡ a ++ (b ++ c)) (la : length a ≡ i) (lb : length b ≡ k) where
  pub part-lent : take k (drop i t) ≡ b
  part-lent = ap (λ (l : List ℕ). take k (drop i l)) e ∙ ap (take k) (drop_at a (b ++ c) i la) ∙ take_at b c k lb

  pub part-back : (ys : List ℕ) → take i t ++ (ys ++ drop k (drop i t)) ≡ a ++ (ys ++ c)
  part-back ys =
      ap (λ (l : List ℕ). take i l ++ (ys ++ drop k (drop i l))) e
      ∙ ap (λ (l : List ℕ). l ++ (ys ++ drop k (drop i (a ++ (b ++ c))))) (take_at a (b ++ c) i la)
      ∙ ap (λ (l : List ℕ). a ++ (ys ++ l)) (ap (drop k) (drop_at a (b ++ c) i la) ∙ drop_at b c k lb)

pub part-long : (i k : ℕ) (t : List ℕ) → i + k ≤ length t → length (take k (drop i t)) ≡ k
part-long i k t h = length-take-le k (drop i t) (omega (arith, length-drop i t))

-- a part that comes back as ys
abbrev pub back : ℕ → ℕ → List ℕ → List ℕ → List ℕ
back i k t ys = take i t ++ (ys ++ drop k (drop i t))

-- two parts of k words one after the other, from the i-th and from the j-th on, are lent and come back
module _ (t ys zs : List ℕ) (i k j e : ℕ) (next : j ≡ i + k) (last : e ≡ j + k) (room : e ≤ length t) (long-y : length ys ≡ k) (long-z : length zs ≡ k) where
  abbrev once : List ℕ
  once = back i k t ys

  long-front : length (take i t) ≡ i
  long-front = length-take-le i t (omega arith)

  once_is : once ≡ (take i t ++ ys) ++ drop j t
  once_is =
      sym (append_assoc (take i t) ys (drop k (drop i t)))
      ∙ ap (λ (l : List ℕ). (take i t ++ ys) ++ l) (drop-drop k i t ∙ ap (λ (x : ℕ). drop x t) (sym next))

  long-both : length (take i t ++ ys) ≡ j
  long-both = length-append (take i t) ys ∙ omega (arith, long-front)

  second-rest : drop j once ≡ drop j t
  second-rest = ap (drop j) once_is ∙ drop_at (take i t ++ ys) (drop j t) j long-both

  -- what the second has before it is lent
  pub second-lent : take k (drop j once) ≡ take k (drop j t)
  second-lent = ap (take k) second-rest

  twice-is : back j k once zs ≡ take i t ++ (ys ++ (zs ++ drop e t))
  twice-is =
      ap (λ (l : List ℕ). l ++ (zs ++ drop k (drop j once))) (ap (take j) once_is ∙ take_at (take i t ++ ys) (drop j t) j long-both)
      ∙ append_assoc (take i t) ys (zs ++ drop k (drop j once))
      ∙ ap (λ (l : List ℕ). take i t ++ (ys ++ (zs ++ l))) (ap (drop k) second-rest ∙ drop-drop k j t ∙ ap (λ (x : ℕ). drop x t) (sym last))

  pub both-front : take i (back j k once zs) ≡ take i t
  both-front = ap (take i) twice-is ∙ take_at (take i t) (ys ++ (zs ++ drop e t)) i long-front

  pub both_first : take k (drop i (back j k once zs)) ≡ ys
  both_first = part-lent (take i t) ys (zs ++ drop e t) (back j k once zs) i k twice-is long-front long-y

  pub both-second : take k (drop j (back j k once zs)) ≡ zs
  both-second = part-lent (take i t ++ ys) zs (drop e t) (back j k once zs) j k (twice-is ∙ sym (append_assoc (take i t) ys (zs ++ drop e t))) long-both long-z

  pub both_behind : drop e (back j k once zs) ≡ drop e t
  both_behind =
      let long : length ((take i t ++ ys) ++ zs) ≡ e = length-append (take i t ++ ys) zs ∙ omega (arith, long-both) in
      ap (drop e) (twice-is ∙ sym (append_assoc (take i t) ys (zs ++ drop e t)) ∙ sym (append_assoc (take i t ++ ys) zs (drop e t)))
      ∙ drop_at ((take i t ++ ys) ++ zs) (drop e t) e long

-- the part c of m parts ends where they end, or before
pub part_end : (k c m : ℕ) → c < m → c * k + k ≤ m * k
part_end k c m h = omega (arith, mul-le-mul_right k h, suc-mul c k)

-- it stands in what goes before its end, and in what comes after its start
pub part-front : (k c n : ℕ) (l : List ℕ) → c * k + k ≤ n → n ≤ length l → part k l c ≡ part k (take n l) c
part-front k c n l h room =
    let long : length (take n l) ≡ n = length-take-le n l room in
    ap (λ (t : List ℕ). part k t c) (sym (take-append-drop n l))
    ∙ ap (take k) (drop-append-le (c * k) (take n l) (drop n l) (omega arith))
    ∙ take-append-le k (drop (c * k) (take n l)) (drop n l) (omega (arith, length-drop (c * k) (take n l)))

pub drop-behind : (i a : ℕ) (l : List ℕ) → a ≤ i → drop i l ≡ drop (i - a) (drop a l)
drop-behind i a l h = let e : a + (i - a) ≡ i = omega arith in sym (drop-drop (i - a) a l ∙ ap (λ (x : ℕ). drop x l) e)

pub part-behind : (k c d : ℕ) (l : List ℕ) → d ≤ c → part k l c ≡ take k (drop (c * k - d * k) (drop (d * k) l))
part-behind k c d l h = ap (take k) (drop-behind (c * k) (d * k) l (mul-le-mul_right k h))

-- ---- all parts changed by f

-- the loop over the parts: c of them are changed, and the others are as they were
abbrev pub Changed : (List ℕ → List ℕ) → ℕ → List ℕ → List ℕ → ℕ → Type 0
Changed f k l₀ l c = l ≡ on_parts f k c l₀ ++ drop (c * k) l₀

-- f changes parts of k words into parts of k words
abbrev pub Keeps : (List ℕ → List ℕ) → ℕ → Type 0
Keeps f k = (l : List ℕ) → length l ≡ k → length (f l) ≡ k

pub changed-start : (f : List ℕ → List ℕ) (k : ℕ) (l₀ : List ℕ) → Changed f k l₀ l₀ 0
unfolding on_parts
changed-start f k l₀ = let e : 0 ≡ 0 * k = omega arith in ap (λ (i : ℕ). drop i l₀) e

pub changed-end : (f : List ℕ → List ℕ) (k : ℕ) (l₀ l : List ℕ) (c : ℕ) → Changed f k l₀ l c → length l₀ ≡ c * k → l ≡ on_parts f k c l₀
changed-end f k l₀ l c e h =
    e
    ∙ ap (λ (i : ℕ). on_parts f k c l₀ ++ drop i l₀) (sym h)
    ∙ ap (λ (x : List ℕ). on_parts f k c l₀ ++ x) (drop-length l₀)
    ∙ append-nil (on_parts f k c l₀)

-- parts that f changes to what g changes others to
pub parts_same : (f g : List ℕ → List ℕ) (k m : ℕ) (l l₀ : List ℕ) → ((c : ℕ) → c < m → f (part k l c) ≡ g (part k l₀ c)) → on_parts f k m l ≡ on_parts g k m l₀
unfolding on_parts
parts_same f g k zero l l₀ h = refl
parts_same f g k (suc m) l l₀ h =
    ap (λ (t : List ℕ). t ++ f (part k l m)) (parts_same f g k m l l₀ (λ c lt. h c (omega arith)))
    ∙ ap (λ (t : List ℕ). on_parts g k m l₀ ++ t) (h m (omega arith))

module _ (f : List ℕ → List ℕ) (k : ℕ) (keeps : Keeps f k) where
  pub length-parts : (l : List ℕ) (c : ℕ) → c * k ≤ length l → length (on_parts f k c l) ≡ c * k
  unfolding on_parts
  length-parts l zero h = omega arith
  length-parts l (suc c) h =
      length-append (on_parts f k c l) (f (part k l c))
      ∙ omega (arith, length-parts l c (omega (arith, suc-mul c k)), keeps (part k l c) (part-long (c * k) k l (omega (arith, suc-mul c k))), suc-mul c k)

  -- the part c of what is changed is the part c, changed
  pub part_of : (l : List ℕ) (m c : ℕ) → c < m → m * k ≤ length l → part k (on_parts f k m l) c ≡ f (part k l c)
  unfolding on_parts
  part_of l zero c h room = absurd (not-suc-le-zero h)
  part_of l (suc m) c h room =
      let a : List ℕ = on_parts f k m l in
      let b : List ℕ = f (part k l m) in
      let la : length a ≡ m * k = length-parts l m (omega (arith, suc-mul m k)) in
      let lb : length b ≡ k = keeps (part k l m) (part-long (m * k) k l (omega (arith, suc-mul m k))) in
      ⊎_elim
      (λ e.
      subst (λ (x : ℕ). part k (a ++ b) x ≡ f (part k l x)) (sym e)
      (part-lent a b [] (a ++ b) (m * k) k (ap (λ (t : List ℕ). a ++ t) (sym (append-nil b))) la lb))
      (λ lt.
      let w : c * k + k ≤ m * k = part_end k c m lt in
      ap (take k) (drop-append-le (c * k) a b (omega (arith, la)))
      ∙ take-append-le k (drop (c * k) a) b (omega (arith, length-drop (c * k) a, la))
      ∙ part_of l m c lt (omega (arith, suc-mul m k))) (eq-or-lt_of_le (le_of_suc-le-suc h))

-- the part c is lent, and comes back changed, where the parts before it are as long as they were
module _ (f : List ℕ → List ℕ) (k : ℕ) (l₀ l : List ℕ) (c : ℕ) (h : c * k + k ≤ length l₀) (long : length (on_parts f k c l₀) ≡ c * k) (e : Changed f k l₀ l c) where
  rest_of : drop (c * k) l ≡ drop (c * k) l₀
  rest_of = ap (drop (c * k)) e ∙ drop_at (on_parts f k c l₀) (drop (c * k) l₀) (c * k) long

  pub changed-long : length (part k l c) ≡ k
  changed-long = ap (λ (r : List ℕ). length (take k r)) rest_of ∙ part-long (c * k) k l₀ h

  pub changed-turn : (ys : List ℕ) → ys ≡ f (part k l c) → Changed f k l₀ (take (c * k) l ++ (ys ++ drop k (drop (c * k) l))) (c + 1)
  unfolding on_parts
  changed-turn ys y =
      let done : List ℕ = on_parts f k c l₀ in
      let here : List ℕ = f (part k l₀ c) in
      rw (add-one c)
      (ap (λ (x : List ℕ). x ++ (ys ++ drop k (drop (c * k) l))) (ap (take (c * k)) e ∙ take_at done (drop (c * k) l₀) (c * k) long)
      ∙ ap (λ (x : List ℕ). done ++ (x ++ drop k (drop (c * k) l))) (y ∙ ap (λ (r : List ℕ). f (take k r)) rest_of)
      ∙ ap (λ (x : List ℕ). done ++ (here ++ x)) (ap (drop k) rest_of ∙ drop-drop k (c * k) l₀ ∙ ap (λ (i : ℕ). drop i l₀) (sym (suc-mul c k)))
      ∙ sym (append_assoc done here (drop (suc c * k) l₀)))

  -- the parts up to this one are as long as they were too
  pub parts-longer : (ys : List ℕ) → ys ≡ f (part k l c) → length ys ≡ k → length (on_parts f k (c + 1) l₀) ≡ (c + 1) * k
  unfolding on_parts
  parts-longer ys y n =
      let same : f (part k l₀ c) ≡ ys = sym (y ∙ ap (λ (r : List ℕ). f (take k r)) rest_of) in
      rw (add-one c)
      (length-append (on_parts f k c l₀) (f (part k l₀ c)) ∙ omega (arith, long, ap length same, n, suc-mul c k))

-- ---- the loops that move words down: in each of m columns the same slots are passed
pub moved-start : (ms : List Bool) (k m : ℕ) (l : List ℕ) (n : ℕ) → NoneMarked ms 0 n → Moved ms k m l l n n
moved-start ms k m l n clear = λ c lt. passed_start ms (part k l c) n clear

pub slid-keeps : (k to from len : ℕ) → to ≤ from → from + len ≤ k → Keeps (slid to from len) k
slid-keeps k to from len down room l e = length-slid l to from down len (omega arith) ∙ e

pub gathered-keeps : (k to : ℕ) (slots : List ℕ) (n : ℕ) → to + n ≤ k → Keeps (gathered to slots n) k
gathered-keeps k to slots n room l e = length-gathered l to slots n (omega arith) ∙ e

pub cleared-keeps : (k from to : ℕ) → from ≤ to → to ≤ k → Keeps (cleared from to) k
cleared-keeps k from to h room l e = length-cleared from to l h (omega arith) ∙ e

-- a change of each part that passes the words from i up to e, so that n stand in front
moved_by : (ms : List Bool) (k m : ℕ) (l₀ l : List ℕ) → length l₀ ≡ m * k → length l ≡ m * k → (i j e n : ℕ) → Moved ms k m l₀ l i j
    → (f : List ℕ → List ℕ) → Keeps f k → ((x₀ x : List ℕ) → length x₀ ≡ k → Passed ms x₀ x i j → Passed ms x₀ (f x) e n)
    → (l' : List ℕ) → l' ≡ on_parts f k m l → Moved ms k m l₀ l' e n
moved_by ms k m l₀ l long₀ long i j e n p f keeps passes l' is = λ c lt.
    let w : c * k + k ≤ m * k = part_end k c m lt in
    let same : part k l' c ≡ f (part k l c) = ap (λ (t : List ℕ). part k t c) is ∙ part_of f k keeps l m c lt (omega (arith, long)) in
    subst (λ (t : List ℕ). Passed ms (part k l₀ c) t e n) (sym same)
    (passes (part k l₀ c) (part k l c) (part-long (c * k) k l₀ (omega (arith, long₀))) (p c lt))

pub moved-run : (ms : List Bool) (k m : ℕ) (l₀ l : List ℕ) → length l₀ ≡ m * k → length l ≡ m * k
    → (i j e : ℕ) → Moved ms k m l₀ l i j → j ≤ i → i ≤ e → e ≤ k → NoneMarked ms i e
    → (l' : List ℕ) → l' ≡ on_parts (slid j i (e - i)) k m l → Moved ms k m l₀ l' e (j + (e - i))
moved-run ms k m l₀ l long₀ long i j e p back h room clear l' is =
    moved_by ms k m l₀ l long₀ long i j e (j + (e - i)) p (slid j i (e - i)) (slid-keeps k j i (e - i) back (omega arith))
    (λ x₀ x long-part q. passed-run ms x₀ x i j e q h (omega arith) clear) l' is

-- the slots from i up to e that are left are listed
pub moved_listed : (ms : List Bool) (k m : ℕ) (l₀ l : List ℕ) → length l₀ ≡ m * k → length l ≡ m * k
    → (i j e : ℕ) → Moved ms k m l₀ l i j → j ≤ i → e ≤ k → (slots : List ℕ) (n : ℕ) → Lists ms i e slots n
    → (l' : List ℕ) → l' ≡ on_parts (gathered j slots n) k m l → Moved ms k m l₀ l' e (j + n)
moved_listed ms k m l₀ l long₀ long i j e p back room slots n listed l' is =
    moved_by ms k m l₀ l long₀ long i j e (j + n) p (gathered j slots n) (gathered-keeps k j slots n (omega (arith, listed.few)))
    (λ x₀ x long-part q. passed-listed ms x₀ x i j e q slots n listed (omega arith)) l' is

-- all slots that are not passed are marked
pub moved-skip : (ms : List Bool) (k m n : ℕ) (l₀ l : List ℕ) (i j : ℕ) → length l₀ ≡ m * k → i ≤ n → n ≤ k → AllMarked ms i n
    → Moved ms k m l₀ l i j → Moved ms k m l₀ l n j
moved-skip ms k m n l₀ l i j long h fits marked p = λ c lt.
    let w : c * k + k ≤ m * k = part_end k c m lt in
    let long-part : length (part k l₀ c) ≡ k = part-long (c * k) k l₀ (omega (arith, long)) in
    passed-skip ms (part k l₀ c) (part k l c) i j (p c lt) n h (omega (arith, long-part)) marked

pub moved-end : (ms : List Bool) (n k m : ℕ) (l₀ l : List ℕ) (j : ℕ) → Moved ms k m l₀ l n j
    → on_parts (cleared j n) k m l ≡ on_parts (compacted ms n) k m l₀
moved-end ms n k m l₀ l j p = parts_same (cleared j n) (compacted ms n) k m l l₀ (λ c lt. passed-end ms n (part k l₀ c) (part k l c) j (p c lt))

-- ---- columns of laid words
module _ {A : Type 0} (k : ℕ) where
  abbrev pub column : (A → List A → ℕ) → List A → List ℕ
  column f xs = pad 0 k (laid f xs)

  pub length-column : (f : A → List A → ℕ) (xs : List A) → length xs ≤ k → length (column f xs) ≡ k
  length-column f xs few = length-pad 0 k (laid f xs) (omega (arith, length-laid f xs))

  -- the part c of m columns is the column c, whatever follows them
  pub part-column : (w : ℕ → A → List A → ℕ) (xs : List A) → length xs ≤ k → (m c : ℕ) (rest : List ℕ) → c < m
      → part k (columns k w m xs ++ rest) c ≡ column (w c) xs
  unfolding columns
  part-column w xs few zero c rest h = absurd (not-suc-le-zero h)
  part-column w xs few (suc m) c rest h =
      let e : columns k w (suc m) xs ++ rest ≡ columns k w m xs ++ (column (w m) xs ++ rest) = append_assoc (columns k w m xs) (column (w m) xs) rest in
      ⊎_elim
      (λ (q : c ≡ m).
      subst (λ (x : ℕ). part k (columns k w (suc m) xs ++ rest) x ≡ column (w x) xs) (sym q)
      (part-lent (columns k w m xs) (column (w m) xs) rest (columns k w (suc m) xs ++ rest) (m * k) k e (length-columns k w xs few m) (length-column (w m) xs few)))
      (λ (lt : c < m). ap (λ (t : List ℕ). part k t c) e ∙ part-column w xs few m c (column (w m) xs ++ rest) lt)
      (eq-or-lt_of_le (le_of_suc-le-suc h))

  -- parts that f changes to columns make these columns
  pub parts-columns : (f : List ℕ → List ℕ) (w : ℕ → A → List A → ℕ) (ys : List A) (m : ℕ) (l : List ℕ) → ((c : ℕ) → c < m → f (part k l c) ≡ column (w c) ys)
      → on_parts f k m l ≡ columns k w m ys
  unfolding on_parts columns
  parts-columns f w ys zero l h = refl
  parts-columns f w ys (suc m) l h =
      ap (λ (t : List ℕ). t ++ f (part k l m)) (parts-columns f w ys m l (λ c lt. h c (omega arith)))
      ∙ ap (λ (t : List ℕ). columns k w m ys ++ t) (h m (omega arith))
