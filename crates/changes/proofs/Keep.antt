-- Padded columns, and what is kept of them: the loop that clears words, and what a column of laid words becomes. Over any number of slots.
use Prim.Native.Nat.{ℕ, zero, suc, ◌+◌, ◌-◌, ◌<◌, ◌≤◌, zero-le, suc-le-suc}
use mathlib.Core.Bool.{Bool, true, false, not, cond, false≢true, true≢false}
use mathlib.Core.List.{List, [], ◌∷◌, ◌++◌, append_assoc, append-nil}
use mathlib.Core.Path.{◌≡◌, refl, ap, sym, subst, ◌∙◌}
use native.Mathlib.Nat.{zero-add, suc-add, not-suc-le-zero, le_of_suc-le-suc, le_refl, le_step}
use native.Mathlib.Numerals.{add-one}
use native.Mathlib.Omega.{arith}
use lib.ListN.{length, get_or, take, drop, set, replicate, length-append, length-take, length-drop, take-append-drop}
use lib.Seq.{drop-drop, take-suc, take_at, drop_at, drop-cons, set_at, get_or-take, get_or-drop, ext_get_or, length-take-le}
use Rattle.rows.specs.Lists.{filter, pad, laid}
use Rattle.changes.specs.vocabulary.Bits.{SameMarks}
use Rattle.changes.specs.vocabulary.Marks.{tested, keep, cleared, compacted}

-- ---- pad
module _ {A : Type 0} (d : A) where
  pub length-pad : (n : ℕ) (l : List A) → length l ≤ n → length (pad d n l) ≡ n
  unfolding pad
  length-pad zero [] h = refl
  length-pad zero (x ∷ l) h = absurd (not-suc-le-zero h)
  length-pad (suc n) [] h = ap suc (length-pad n [] zero-le)
  length-pad (suc n) (x ∷ l) h = ap suc (length-pad n l (le_of_suc-le-suc h))

  pub pad-self : (l : List A) → pad d (length l) l ≡ l
  unfolding pad
  pad-self [] = refl
  pad-self (x ∷ l) = ap (λ (t : List A). x ∷ t) (pad-self l)

  pub pad-more : (n : ℕ) (l : List A) → length l ≤ n → pad d (suc n) l ≡ pad d n l ++ (d ∷ [])
  unfolding pad
  pad-more zero [] h = refl
  pad-more zero (x ∷ l) h = absurd (not-suc-le-zero h)
  pad-more (suc n) [] h = ap (λ (t : List A). d ∷ t) (pad-more n [] zero-le)
  pad-more (suc n) (x ∷ l) h = ap (λ (t : List A). x ∷ t) (pad-more n l (le_of_suc-le-suc h))

  pub pad-on : (n m : ℕ) (l : List A) → length l ≤ n → pad d (n + m) l ≡ pad d n l ++ pad d m []
  unfolding pad
  pad-on zero m [] h = rw zero-add refl
  pad-on zero m (x ∷ l) h = absurd (not-suc-le-zero h)
  pad-on (suc n) m [] h = rw suc-add (ap (λ (t : List A). d ∷ t) (pad-on n m [] zero-le))
  pad-on (suc n) m (x ∷ l) h = rw suc-add (ap (λ (t : List A). x ∷ t) (pad-on n m l (le_of_suc-le-suc h)))

  -- what stands is followed by so many more
  pub pad-replicate : (n : ℕ) → pad d n [] ≡ replicate n d
  unfolding pad
  pad-replicate zero = refl
  pad-replicate (suc n) = ap (λ (t : List A). d ∷ t) (pad-replicate n)

  pub pad-behind : (n m : ℕ) (l : List A) → length l ≡ n → pad d (n + m) l ≡ l ++ replicate m d
  pad-behind n m l e = subst (λ (k : ℕ). pad d (k + m) l ≡ l ++ replicate m d) e (pad-on (length l) m l (le_refl (length l)) ∙ rw (pad-self l, pad-replicate m) refl)

-- words that are filled with 0, from one position up to another
pub cleared-filled : (from to : ℕ) (l ys : List ℕ) → from ≤ to → to ≤ length l → ys ≡ replicate (to - from) 0 → take from l ++ (ys ++ drop (to - from) (drop from l)) ≡ cleared from to l
unfolding cleared
cleared-filled from to l ys h room zeros =
    let w : ℕ = to - from in
    let on : from + w ≡ to = omega arith in
    ap (λ (z : List ℕ). take from l ++ (z ++ drop w (drop from l))) zeros
    ∙ sym (append_assoc (take from l) (replicate w 0) (drop w (drop from l)))
    ∙ ap (λ (z : List ℕ). z ++ drop w (drop from l)) (sym (pad-behind 0 from w (take from l) (length-take-le from l (omega arith))))
    ∙ ap (λ (z : List ℕ). pad 0 (from + w) (take from l) ++ z) (drop-drop w from l)
    ∙ ap (λ (n : ℕ). pad 0 n (take from l) ++ drop n l) on

-- ---- keep
module _ {A : Type 0} where
  keep-nil : (ms : List Bool) → ◌≡◌ {A = List A} (keep ms []) []
  unfolding keep
  keep-nil [] = refl
  keep-nil (m ∷ ms) = refl

  pub length-keep : (ms : List Bool) (l : List A) → length (keep ms l) ≤ length l
  unfolding keep
  length-keep [] l = le_refl (length l)
  length-keep (m ∷ ms) [] = zero-le
  length-keep (true ∷ ms) (x ∷ l) = le_step (length-keep ms l)
  length-keep (false ∷ ms) (x ∷ l) = suc-le-suc (length-keep ms l)

  -- one element more, marked or not
  pub keep-skip : (ms : List Bool) (l : List A) (i : ℕ) → i < length l → get_or ms i false ≡ true → keep ms (take (suc i) l) ≡ keep ms (take i l)
  unfolding keep
  keep-skip ms [] i h e = absurd (not-suc-le-zero h)
  keep-skip [] (x ∷ l) i h e = absurd (false≢true e)
  keep-skip (true ∷ ms) (x ∷ l) zero h e = keep-nil ms
  keep-skip (false ∷ ms) (x ∷ l) zero h e = absurd (false≢true e)
  keep-skip (true ∷ ms) (x ∷ l) (suc i) h e = keep-skip ms l i (le_of_suc-le-suc h) e
  keep-skip (false ∷ ms) (x ∷ l) (suc i) h e = ap (λ (t : List A). x ∷ t) (keep-skip ms l i (le_of_suc-le-suc h) e)

  pub keep-take : (d : A) (ms : List Bool) (l : List A) (i : ℕ) → i < length l → get_or ms i false ≡ false → keep ms (take (suc i) l) ≡ keep ms (take i l) ++ (get_or l i d ∷ [])
  unfolding keep
  keep-take d ms [] i h e = absurd (not-suc-le-zero h)
  keep-take d [] (x ∷ l) i h e = take-suc (x ∷ l) i d h
  keep-take d (true ∷ ms) (x ∷ l) zero h e = absurd (true≢false e)
  keep-take d (false ∷ ms) (x ∷ l) zero h e = ap (λ (t : List A). x ∷ t) (keep-nil ms)
  keep-take d (true ∷ ms) (x ∷ l) (suc i) h e = keep-take d ms l i (le_of_suc-le-suc h) e
  keep-take d (false ∷ ms) (x ∷ l) (suc i) h e = ap (λ (t : List A). x ∷ t) (keep-take d ms l i (le_of_suc-le-suc h) e)

  pub keep-unmarked : (ms : List Bool) (l : List A) (n : ℕ) → ((i : ℕ) → i < n → get_or ms i false ≡ false) → keep ms (take n l) ≡ take n l
  unfolding keep
  keep-unmarked [] l n f = refl
  keep-unmarked (m ∷ ms) l zero f = refl
  keep-unmarked (m ∷ ms) [] (suc n) f = refl
  keep-unmarked (true ∷ ms) (x ∷ l) (suc n) f = absurd (true≢false (f 0 (suc-le-suc zero-le)))
  keep-unmarked (false ∷ ms) (x ∷ l) (suc n) f = ap (λ (t : List A). x ∷ t) (keep-unmarked ms l n (λ i h. f (suc i) (suc-le-suc h)))

  -- marks that agree where there are elements keep the same
  keep-step : (ms : List Bool) (x : A) (l : List A) → keep ms (x ∷ l) ≡ cond (get_or ms 0 false) (keep (drop 1 ms) l) (x ∷ keep (drop 1 ms) l)
  unfolding keep
  keep-step [] x l = refl
  keep-step (m ∷ ms) x l = refl

  keep_same : (ms ms' : List Bool) (l : List A) → ((i : ℕ) → i < length l → get_or ms' i false ≡ get_or ms i false) → keep ms' l ≡ keep ms l
  keep_same ms ms' [] same = keep-nil ms' ∙ sym (keep-nil ms)
  keep_same ms ms' (x ∷ l) same =
      let rest : keep (drop 1 ms') l ≡ keep (drop 1 ms) l = keep_same (drop 1 ms) (drop 1 ms') l (λ i h. later ms' i ∙ same (suc i) (suc-le-suc h) ∙ sym (later ms i)) in
      keep-step ms' x l
      ∙ (λ i. cond (same 0 (suc-le-suc zero-le) i) (rest i) (x ∷ rest i))
      ∙ sym (keep-step ms x l)
    where
      later : (ms : List Bool) (i : ℕ) → get_or (drop 1 ms) i false ≡ get_or ms (suc i) false
      later [] i = refl
      later (m ∷ ms) i = refl

  -- marks that are padded with false mark nothing more
  pub keep-pad : (n : ℕ) (ms : List Bool) (l : List A) → keep (pad false n ms) l ≡ keep ms l
  unfolding keep pad
  keep-pad zero ms l = refl
  keep-pad (suc n) [] [] = refl
  keep-pad (suc n) [] (x ∷ l) = ap (λ (t : List A). x ∷ t) (keep-pad n [] l)
  keep-pad (suc n) (m ∷ ms) [] = refl
  keep-pad (suc n) (true ∷ ms) (x ∷ l) = keep-pad n ms l
  keep-pad (suc n) (false ∷ ms) (x ∷ l) = ap (λ (t : List A). x ∷ t) (keep-pad n ms l)

  -- what is kept of a padded list, padded
  pad-keep : (d : A) (ms : List Bool) (m n : ℕ) (l : List A) → length l ≤ m → m ≤ n → pad d n (keep ms (pad d m l)) ≡ pad d n (keep ms l)
  unfolding keep pad
  pad-keep d ms zero n [] h k = refl
  pad-keep d ms zero n (x ∷ l) h k = absurd (not-suc-le-zero h)
  pad-keep d ms (suc m) zero l h k = absurd (not-suc-le-zero k)
  pad-keep d [] (suc m) (suc n) [] h k = ap (λ (t : List A). d ∷ t) (pad-keep d [] m n [] zero-le (le_of_suc-le-suc k))
  pad-keep d (true ∷ ms) (suc m) (suc n) [] h k = pad-keep d ms m (suc n) [] zero-le (omega arith) ∙ ap (pad d (suc n)) (keep-nil ms)
  pad-keep d (false ∷ ms) (suc m) (suc n) [] h k = ap (λ (t : List A). d ∷ t) (pad-keep d ms m n [] zero-le (le_of_suc-le-suc k) ∙ ap (pad d n) (keep-nil ms))
  pad-keep d [] (suc m) (suc n) (x ∷ l) h k = ap (λ (t : List A). x ∷ t) (pad-keep d [] m n l (le_of_suc-le-suc h) (le_of_suc-le-suc k))
  pad-keep d (true ∷ ms) (suc m) (suc n) (x ∷ l) h k = pad-keep d ms m (suc n) l (le_of_suc-le-suc h) (omega arith)
  pad-keep d (false ∷ ms) (suc m) (suc n) (x ∷ l) h k = ap (λ (t : List A). x ∷ t) (pad-keep d ms m n l (le_of_suc-le-suc h) (le_of_suc-le-suc k))

  keep_snoc : (ms : List Bool) (m : Bool) (l : List A) (x : A) → length ms ≡ length l → keep (ms ++ (m ∷ [])) (l ++ (x ∷ [])) ≡ keep ms l ++ cond m [] (x ∷ [])
  unfolding keep
  keep_snoc [] m [] x e = refl
  keep_snoc [] m (y ∷ l) x e = absurd (omega arith)
  keep_snoc (b ∷ ms) m [] x e = absurd (omega arith)
  keep_snoc (true ∷ ms) m (y ∷ l) x e = keep_snoc ms m l x (omega arith)
  keep_snoc (false ∷ ms) m (y ∷ l) x e = ap (λ (t : List A). y ∷ t) (keep_snoc ms m l x (omega arith))

-- ---- the loop that clears what stands between two positions
module _ {A : Type 0} (d : A) (l₀ : List A) (from : ℕ) (room : from ≤ length l₀) where
  abbrev pub Cleared : List A → ℕ → Type 0
  Cleared l i = l ≡ pad d i (take from l₀) ++ drop i l₀

  long : length (take from l₀) ≡ from
  long = length-take-le from l₀ room

  pub clear-start : Cleared l₀ from
  clear-start =
      sym (take-append-drop from l₀)
      ∙ ap (λ (t : List A). t ++ drop from l₀) (sym (ap (λ (k : ℕ). pad d k (take from l₀)) (sym long) ∙ pad-self d (take from l₀)))

  pub clear-turn : (l : List A) (i : ℕ) → from ≤ i → i < length l₀ → Cleared l i → Cleared (set l i d) (i + 1)
  clear-turn l i h k e =
      rw (add-one i)
      (ap (λ (t : List A). set t i d) (e ∙ ap (λ (t : List A). pad d i (take from l₀) ++ t) (drop-cons l₀ i d k))
      ∙ set_at (pad d i (take from l₀)) (get_or l₀ i d) (drop (suc i) l₀) d i (length-pad d i (take from l₀) (omega (arith, long)))
      ∙ sym (append_assoc (pad d i (take from l₀)) (d ∷ []) (drop (suc i) l₀))
      ∙ ap (λ (t : List A). t ++ drop (suc i) l₀) (sym (pad-more d i (take from l₀) (omega (arith, long)))))

-- ---- columns that agree where nothing is marked are compacted to the same
keep-agree : (ms : List Bool) (l l' : List ℕ) → length l ≡ length l' → ((i : ℕ) → i < length l → get_or ms i false ≡ false → get_or l i 0 ≡ get_or l' i 0)
    → keep ms l ≡ keep ms l'
unfolding keep
keep-agree ms [] [] e h = refl
keep-agree ms [] (y ∷ l') e h = absurd (omega arith)
keep-agree ms (x ∷ l) [] e h = absurd (omega arith)
keep-agree [] (x ∷ l) (y ∷ l') e h =
    ap (λ (w : ℕ). w ∷ l) (h 0 (suc-le-suc zero-le) refl)
    ∙ ap (λ (t : List ℕ). y ∷ t) (keep-agree [] l l' (omega arith) (λ i lt u. h (suc i) (suc-le-suc lt) u))
keep-agree (true ∷ ms) (x ∷ l) (y ∷ l') e h = keep-agree ms l l' (omega arith) (λ i lt u. h (suc i) (suc-le-suc lt) u)
keep-agree (false ∷ ms) (x ∷ l) (y ∷ l') e h =
    ap (λ (w : ℕ). w ∷ keep ms l) (h 0 (suc-le-suc zero-le) refl)
    ∙ ap (λ (t : List ℕ). y ∷ t) (keep-agree ms l l' (omega arith) (λ i lt u. h (suc i) (suc-le-suc lt) u))

pub compacted-agree : (ms : List Bool) (n : ℕ) (l l' : List ℕ) → n ≤ length l → length l ≡ length l'
    → ((i : ℕ) → i < n → get_or ms i false ≡ false → get_or l i 0 ≡ get_or l' i 0) → ((i : ℕ) → n ≤ i → get_or l i 0 ≡ get_or l' i 0)
    → compacted ms n l ≡ compacted ms n l'
unfolding compacted
compacted-agree ms n l l' room e same rest =
    let long : length (take n l) ≡ n = length-take-le n l room in
    let long' : length (take n l') ≡ n = length-take-le n l' (omega arith) in
    ap (λ (t : List ℕ). pad 0 n t ++ drop n l)
    (keep-agree ms (take n l) (take n l') (long ∙ sym long')
    (λ i h u. let lt : i < n = omega arith in get_or-take n l i 0 lt ∙ same i lt u ∙ sym (get_or-take n l' i 0 lt)))
    ∙ ap (λ (t : List ℕ). pad 0 n (keep ms (take n l')) ++ t)
    (ext_get_or 0 (drop n l) (drop n l') (omega (arith, length-drop n l, length-drop n l'))
    (λ i h. get_or-drop n l i 0 ∙ rest (n + i) (omega arith) ∙ sym (get_or-drop n l' i 0)))

pub compacted-same : (ms ms' : List Bool) (n : ℕ) → SameMarks ms ms' n → compacted ms' n ≡ compacted ms n
unfolding compacted
compacted-same ms ms' n same i l = pad 0 n (keep_same ms ms' (take n l) (λ x h. same x (omega (arith, length-take n l))) i) ++ drop n l

-- ---- a column of laid words
-- a padded column, of which the first n words are looked at and hold all that is not padding
compacted-more : (ms : List Bool) (n m : ℕ) (l : List ℕ) → length l ≤ n → compacted ms n (pad 0 (n + m) l) ≡ pad 0 (n + m) (keep ms l)
unfolding compacted
compacted-more ms n m l h =
    let e : pad 0 (n + m) l ≡ pad 0 n l ++ pad 0 m [] = pad-on 0 n m l h in
    let long : length (pad 0 n l) ≡ n = length-pad 0 n l h in
    ap (λ (t : List ℕ). pad 0 n (keep ms (take n t)) ++ drop n t) e
    ∙ ap (λ (t : List ℕ). pad 0 n (keep ms t) ++ drop n (pad 0 n l ++ pad 0 m [])) (take_at (pad 0 n l) (pad 0 m []) n long)
    ∙ ap (λ (t : List ℕ). pad 0 n (keep ms (pad 0 n l)) ++ t) (drop_at (pad 0 n l) (pad 0 m []) n long)
    ∙ ap (λ (t : List ℕ). t ++ pad 0 m []) (pad-keep 0 ms n n l h (le_refl n))
    ∙ sym (pad-on 0 n m (keep ms l) (omega (arith, length-keep ms l)))

compacted-pad : (ms : List Bool) (n k : ℕ) (l : List ℕ) → length l ≤ n → n ≤ k → compacted ms n (pad 0 k l) ≡ pad 0 k (keep ms l)
compacted-pad ms n k l h room =
    let e : n + (k - n) ≡ k = omega arith in
    subst (λ (x : ℕ). compacted ms n (pad 0 x l) ≡ pad 0 x (keep ms l)) e (compacted-more ms n (k - n) l h)

module _ {A : Type 0} where
  pub length-tested : (p : A → Bool) (xs : List A) → length (tested p xs) ≡ length xs
  unfolding tested
  length-tested p [] = refl
  length-tested p (x ∷ xs) = omega (arith, length-append (tested p xs) (p x ∷ []), length-tested p xs)

  pub length-laid : (f : A → List A → ℕ) (xs : List A) → length (laid f xs) ≡ length xs
  unfolding laid
  length-laid f [] = refl
  length-laid f (x ∷ xs) = omega (arith, length-append (laid f xs) (f x xs ∷ []), length-laid f xs)

  -- the elements that the test p does not remove
  abbrev pub left : (A → Bool) → List A → List A
  left p xs = filter (λ x. not (p x)) xs

  module _ (p : A → Bool) (f g : A → List A → ℕ) where
    -- the word f of an element that is left is the word g among those that are left
    abbrev pub Fits : List A → Type 0
    Fits [] = Unit {0}
    Fits (x ∷ xs) = (p x ≡ false → f x xs ≡ g x (left p xs)) × Fits xs

    pub keep-laid : (xs : List A) → Fits xs → keep (tested p xs) (laid f xs) ≡ laid g (left p xs)
    unfolding tested laid filter keep
    keep-laid [] a = refl
    keep-laid (x ∷ xs) a =
        keep_snoc (tested p xs) (p x) (laid f xs) (f x xs) (length-tested p xs ∙ sym (length-laid f xs)) ∙ pick (p x) refl (keep-laid xs a.1)
      where
        pick : (b : Bool) → p x ≡ b → keep (tested p xs) (laid f xs) ≡ laid g (left p xs)
            → keep (tested p xs) (laid f xs) ++ cond b [] (f x xs ∷ []) ≡ laid g (cond (not b) (x ∷ left p xs) (left p xs))
        pick true e ih = append-nil (keep (tested p xs) (laid f xs)) ∙ ih
        pick false e ih = ap (λ (t : List ℕ). t ++ (f x xs ∷ [])) ih ∙ ap (λ (w : ℕ). laid g (left p xs) ++ (w ∷ [])) (a.0 e)

    -- a column compacted by padded marks, of which the first n slots are looked at
    pub compacted-laid : (m n k : ℕ) (xs : List A) → length xs ≤ n → n ≤ k → Fits xs → compacted (pad false m (tested p xs)) n (pad 0 k (laid f xs)) ≡ pad 0 k (laid g (left p xs))
    compacted-laid m n k xs h room a =
        compacted-pad (pad false m (tested p xs)) n k (laid f xs) (omega (arith, length-laid f xs)) room
        ∙ ap (pad 0 k) (keep-pad m (tested p xs) (laid f xs) ∙ keep-laid xs a)

  -- words that do not look at the older elements
  pub fits-plain : (p : A → Bool) (f : A → List A → ℕ) → ((x : A) (older older' : List A) → f x older ≡ f x older') → (xs : List A) → Fits p f f xs
  fits-plain p f same [] = tt
  fits-plain p f same (x ∷ xs) = ((λ e. same x xs (left p xs)), fits-plain p f same xs)
