-- Laws of columns: a text filled in from the left, a number from the right, a field written over spaces.
use Prim.Native.Nat.{ℕ, zero, suc, ◌+◌, ◌-◌, ◌/◌, ◌%◌, ◌^◌, ◌<◌, ◌≤◌}
use native.Mathlib.Numerals.{add-one}
use native.Mathlib.Nat.{zero-add, pow-suc, lt_irrefl}
use native.Mathlib.Decide.{dec_lt}
use native.Mathlib.Omega.{arith}
use mathlib.Core.Bool.{true}
use lib.Dec.{leb}
use mathlib.Core.List.{List, [], ◌∷◌, ◌++◌, append-nil, append_assoc}
use mathlib.Core.Path.{◌≡◌, refl, sym, ap, ◌∙◌}
use lib.ListN.{length, get_or, take, drop, set, length-append, length-drop, length-set, length-replicate, get_or-replicate, replicate-append-replicate, get_or-append}
use lib.Seq.{paste, paste-suc, take_at, drop_at, drop-append-le, take-append-add, get_or-append-add, length-take-le, drop-length}
use borrow.Rule.Slice.PartMut.{put_mid}
use borrow.Author.Tests.{ne_eqb, lt-ltb, le-ltb, leb-true}
use Rattle.rows.specs.Lists.{between}
use Rattle.rows.specs.Limits.{nodes, processes}
use Rattle.rows.specs.Codes.{is_node, is_clist, in_clist}
use Rattle.rows.proofs.Bools.{and_l, and_r}
use Rattle.text.specs.Answers.{decimal, digits_of}
use Rattle.text.proofs.ReplyLaws.{decimal-more, decimal-one, drop-stored}
use Rattle.page.specs.Page.{spaces, left_in, right_in}
use Rattle.page.specs.vocabulary.Columns.{PLACE-COLUMNS, NAME, byte_or_space, digit_or_space}

-- ---- spaces
pub spaces-long : (n : ℕ) → length (spaces n) ≡ n
unfolding spaces
spaces-long n = length-replicate n 32

pub spaces-join : (n m : ℕ) → spaces n ++ spaces m ≡ spaces (n + m)
unfolding spaces
spaces-join n m = replicate-append-replicate n m 32

pub spaces-take : (k n : ℕ) → k ≤ n → take k (spaces n) ≡ spaces k
spaces-take k n h =
    let e : k + (n - k) ≡ n = omega arith in
    ap (λ (m : ℕ). take k (spaces m)) (sym e) ∙ ap (λ (l : List ℕ). take k l) (sym (spaces-join k (n - k))) ∙ take_at (spaces k) (spaces (n - k)) k (spaces-long k)

pub spaces-drop : (k n : ℕ) → drop k (spaces (k + n)) ≡ spaces n
spaces-drop k n = ap (λ (l : List ℕ). drop k l) (sym (spaces-join k n)) ∙ drop_at (spaces k) (spaces n) k (spaces-long k)

-- ---- a text from the left
pub left-long : (w : ℕ) (t : List ℕ) → length (left_in w t) ≡ w
unfolding left_in
left-long w t = length-take-le w (t ++ spaces w) (omega (arith, length-append t (spaces w), spaces-long w))

-- the text, and as many spaces as there is room for
pub take-spaced : (w : ℕ) (t : List ℕ) (k m : ℕ) → length t + k ≡ w → k ≤ m → take w (t ++ spaces m) ≡ t ++ spaces k
take-spaced w t k m e h =
    ap (λ (n : ℕ). take n (t ++ spaces m)) (sym e) ∙ take-append-add t (spaces m) k ∙ ap (λ (l : List ℕ). t ++ l) (spaces-take k m h)

pub left-fits : (w : ℕ) (t : List ℕ) (k : ℕ) → length t + k ≡ w → left_in w t ≡ t ++ spaces k
unfolding left_in
left-fits w t k e = take-spaced w t k w e (omega arith)

pub left-none : (w : ℕ) → left_in w [] ≡ spaces w
left-none w = left-fits w [] w (zero-add w)

-- one column more
left-column : (t : List ℕ) (w i : ℕ) → i < w → get_or (t ++ spaces w) i 0 ≡ byte_or_space t i
unfolding byte_or_space spaces
left-column t w i h = elim (dec_lt i (length t)) [
  | yes in-it ↦ rw (lt-ltb i (length t) in-it) (get_or-append t (spaces w) 0 i in-it)
  | no past ↦
      let e : length t + (i - length t) ≡ i = omega arith in
      rw (le-ltb i (length t) (omega arith))
      (ap (λ (k : ℕ). get_or (t ++ spaces w) k 0) (sym e) ∙ get_or-append-add t (spaces w) (i - length t) 0 ∙ get_or-replicate w (i - length t) 32 0 (omega arith))
]

pub left-more : (d t : List ℕ) (i : ℕ) → i < length d
    → set (paste d 0 (t ++ spaces (length d)) i) i (byte_or_space t i) ≡ paste d 0 (t ++ spaces (length d)) (i + 1)
left-more d t i h =
    let l = t ++ spaces (length d) in
    let at : 0 + i ≡ i = zero-add i in
    let long : i < length l = omega (arith, length-append t (spaces (length d)), spaces-long (length d)) in
    rw (add-one i)
    (ap (λ (x : ℕ). set (paste d 0 l i) i x) (sym (left-column t (length d) i h)) ∙ ap (λ (k : ℕ). set (paste d 0 l i) k (get_or l i 0)) (sym at)
    ∙ paste-suc d 0 l i 0 (omega arith) long)

-- all columns
pub left-whole : (d t : List ℕ) → paste d 0 (t ++ spaces (length d)) (length d) ≡ left_in (length d) t
unfolding left_in
left-whole d t =
    let w = length d in
    let none : drop (0 + w) d ≡ [] = ap (λ (k : ℕ). drop k d) (zero-add w) ∙ drop-length d in
    ap (λ (l : List ℕ). take w (t ++ spaces w) ++ l) none ∙ append-nil (take w (t ++ spaces w))

-- ---- a number from the right
right-none : (w : ℕ) → right_in w [] ≡ spaces w
unfolding right_in
right-none w = append-nil (spaces w)

pub right-long : (w : ℕ) (t : List ℕ) → length (right_in w t) ≡ w
unfolding right_in
right-long w t = omega (arith, length-drop (length t) (spaces w ++ t), length-append (spaces w) t, spaces-long w)

right-more : (w : ℕ) (t : List ℕ) (b : ℕ) → right_in (suc w) (t ++ (b ∷ [])) ≡ right_in w t ++ (b ∷ [])
unfolding right_in spaces
right-more w t b =
    let one : length (t ++ (b ∷ [])) ≡ suc (length t) = omega (arith, length-append t (b ∷ [])) in
    rw one
    (ap (λ (l : List ℕ). drop (length t) l) (sym (append_assoc (spaces w) t (b ∷ [])))
    ∙ drop-append-le (length t) (spaces w ++ t) (b ∷ []) (omega (arith, length-append (spaces w) t)))

-- the columns before the last, of what is left of the number
unfoldable pub before : ℕ → ℕ → List ℕ
before zero n = []
before (suc w) n = before w (n / 10) ++ (digit_or_space n ∷ [])

before-none : (w : ℕ) → before w 0 ≡ spaces w
unfolding before digit_or_space spaces
before-none zero = refl
before-none (suc w) = ap (λ (l : List ℕ). l ++ (32 ∷ [])) (before-none w) ∙ spaces-join w 1 ∙ ap spaces (add-one w)

before-digit : (w n : ℕ) → 0 < n → before (suc w) n ≡ before w (n / 10) ++ ((48 + n % 10) ∷ [])
unfolding before digit_or_space
before-digit w n h = rw (ne_eqb n 0 (λ e. omega arith)) refl

-- all that is left of a number, where something is
before-all : (d w n : ℕ) → 0 < n → n < 10 ^ d → right_in w (decimal d n) ≡ before w n
unfolding right_in spaces before
before-all zero w n some short = absurd (lt_irrefl 0 (omega (arith, short)))
before-all (suc d) zero n some short = drop-length (decimal (suc d) n)
before-all (suc d) (suc w) n some short = elim (dec_lt n 10) [
  | yes h ↦
      let none : n / 10 ≡ 0 = omega arith in
      rw (decimal-one d n h) (right-more w [] (48 + n % 10) ∙ ap (λ (l : List ℕ). l ++ ((48 + n % 10) ∷ [])) (right-none w ∙ sym (before-none w) ∙ ap (before w) (sym none)) ∙ sym (before-digit w n some))
  | no h ↦
      rw (decimal-more d n (omega arith))
      (right-more w (decimal d (n / 10)) (48 + n % 10)
      ∙ ap (λ (l : List ℕ). l ++ ((48 + n % 10) ∷ [])) (before-all d w (n / 10) (omega arith) (omega (arith, pow-suc 10 d, short)))
      ∙ sym (before-digit w n some))
]

-- a number's digits from the right: the last one, and those before it
pub right-digits : (d w n : ℕ) → n < 10 ^ suc d → right_in (suc w) (decimal (suc d) n) ≡ before w (n / 10) ++ ((48 + n % 10) ∷ [])
right-digits d w n short = elim (dec_lt 0 n) [
  | yes some ↦ before-all (suc d) (suc w) n some short ∙ before-digit w n some
  | no h ↦
      let none : n / 10 ≡ 0 = omega arith in
      rw (decimal-one d n (omega arith), none) (right-more w [] (48 + n % 10) ∙ ap (λ (l : List ℕ). l ++ ((48 + n % 10) ∷ [])) (right-none w ∙ sym (before-none w)))
]

-- its last digit is written
pub right-start : (d : List ℕ) (n : ℕ) → 0 < length d → n < 10 ^ 10
    → before (length d - 1) (n / 10) ++ drop (length d - 1) (set d (length d - 1) (48 + n % 10)) ≡ right_in (length (set d (length d - 1) (48 + n % 10))) (digits_of n)
unfolding digits_of
right-start d n some short =
    let w = length d - 1 in
    let b = 48 + n % 10 in
    let one : suc w ≡ length d = omega arith in
    let last : drop w (set d w b) ≡ b ∷ [] = drop-stored d w b (omega arith) ∙ ap (λ (l : List ℕ). b ∷ l) (ap (λ (k : ℕ). drop k d) one ∙ drop-length d) in
    ap (λ (l : List ℕ). before w (n / 10) ++ l) last ∙ sym (right-digits 9 w n short) ∙ ap (λ (k : ℕ). right_in k (decimal 10 n)) (one ∙ sym (length-set d w b))

-- one column more, before those that are written
pub before_more : (l : List ℕ) (j left : ℕ) (t : List ℕ) → j < length l → before (suc j) left ++ drop (suc j) l ≡ t → before j (left / 10) ++ drop j (set l j (digit_or_space left)) ≡ t
unfolding before
before_more l j left t h e =
    ap (λ (r : List ℕ). before j (left / 10) ++ r) (drop-stored l j (digit_or_space left) h)
    ∙ sym (append_assoc (before j (left / 10)) (digit_or_space left ∷ []) (drop (suc j) l)) ∙ e

-- as many spaces as there is room for, and the text
pub right-fits : (w : ℕ) (t : List ℕ) (k : ℕ) → length t + k ≡ w → right_in w t ≡ spaces k ++ t
unfolding right_in
right-fits w t k e =
    ap (λ (l : List ℕ). drop (length t) (l ++ t)) (ap spaces (sym e) ∙ sym (spaces-join (length t) k))
    ∙ ap (drop (length t)) (append_assoc (spaces (length t)) (spaces k) t)
    ∙ drop_at (spaces (length t)) (spaces k ++ t) (length t) (spaces-long (length t))

pub right-whole : (w : ℕ) (t : List ℕ) → length t ≡ w → right_in w t ≡ t
unfolding spaces
right-whole w t e = right-fits w t 0 (omega arith)

-- ---- a field over spaces
-- what f makes of w columns from a on, where s stands before them and spaces from a on
pub over-spaces : (f : ℕ → List ℕ) (s l x : List ℕ) (a w m : ℕ) → length s ≡ a → l ≡ s ++ spaces (w + m) → x ≡ f (length (take w (drop a l)))
    → put_mid a w l x ≡ (s ++ f w) ++ spaces m
over-spaces f s l x a w m e blank is =
    let before-it : take a l ≡ s = ap (take a) blank ∙ take_at s (spaces (w + m)) a e in
    let from-it : drop a l ≡ spaces (w + m) = ap (drop a) blank ∙ drop_at s (spaces (w + m)) a e in
    let after-it : drop w (drop a l) ≡ spaces m = ap (drop w) from-it ∙ spaces-drop w m in
    let wide : length (take w (drop a l)) ≡ w = ap (λ (r : List ℕ). length (take w r)) from-it ∙ ap length (spaces-take w (w + m) (omega arith)) ∙ spaces-long w in
    ap (λ (r : List ℕ). r ++ (x ++ drop w (drop a l))) before-it
    ∙ ap (λ (r : List ℕ). s ++ (x ++ r)) after-it
    ∙ ap (λ (r : List ℕ). s ++ (r ++ spaces m)) (is ∙ ap f wide)
    ∙ sym (append_assoc s (f w) (spaces m))

-- the same, and a space after it
pub field : (f : ℕ → List ℕ) (s l x : List ℕ) (a w m : ℕ) → length s ≡ a → l ≡ s ++ spaces (w + (1 + m)) → x ≡ f (length (take w (drop a l)))
    → put_mid a w l x ≡ ((s ++ f w) ++ spaces 1) ++ spaces m
field f s l x a w m e blank is =
    over-spaces f s l x a w (1 + m) e blank is
    ∙ ap (λ (r : List ℕ). (s ++ f w) ++ r) (sym (spaces-join 1 m)) ∙ sym (append_assoc (s ++ f w) (spaces 1) (spaces m))

pub field-long : (s c : List ℕ) (a w : ℕ) → length s ≡ a → length c ≡ w → length ((s ++ c) ++ spaces 1) ≡ a + w + 1
field-long s c a w ls lc = omega (arith, length-append (s ++ c) (spaces 1), length-append s c, spaces-long 1)

-- a name and a number of k digits
pub named : (name l x : List ℕ) (w n k : ℕ) → w ≡ PLACE-COLUMNS → length name ≡ NAME → length (digits_of n) ≡ k → k ≤ 3
    → l ≡ left_in w name → x ≡ right_in (length (take k (drop NAME l))) (digits_of n)
    → put_mid NAME k l x ≡ left_in PLACE-COLUMNS (name ++ digits_of n)
named name l x w n k wide five digits few name-only is =
    over-spaces (λ (v : ℕ). right_in v (digits_of n)) name l x NAME k (3 - k) five (name-only ∙ left-fits w name (k + (3 - k)) (omega arith)) is
    ∙ ap (λ (r : List ℕ). (name ++ r) ++ spaces (3 - k)) (right-whole k (digits_of n) digits)
    ∙ sym (left-fits PLACE-COLUMNS (name ++ digits_of n) (3 - k) (omega (arith, length-append name (digits_of n))))

pub one-digit : (n : ℕ) → n < 10 → length (digits_of n) ≡ 1
unfolding digits_of
one-digit n h = ap length (decimal-one 9 n h)

pub two_digits : (n : ℕ) → 10 ≤ n → n < 100 → length (digits_of n) ≡ 2
unfolding digits_of
two_digits n lo hi = ap length (decimal-more 9 n lo ∙ ap (λ (l : List ℕ). l ++ ((48 + n % 10) ∷ [])) (decimal-one 8 (n / 10) (omega arith)))

-- the number of a node, of the process of a c-list
pub node-short : (p : ℕ) → is_node p ≡ true → p < 100
unfolding is_node between nodes
node-short p is = let h = leb-true p 32 (and_r (leb 1 p) (leb p 32) is) in omega arith

pub clist-owner : (p : ℕ) → is_clist p ≡ true → (100 ≤ p) × (p - 100 < 100)
unfolding is_clist in_clist between processes
clist-owner p is =
    let lo = leb-true 101 p (and_l (leb 101 p) (leb p 164) is) in
    let hi = leb-true p 164 (and_r (leb 101 p) (leb p 164) is) in
    (omega arith, omega arith)

-- five fields one after the other
pub five-joined : (a b c d e r g : List ℕ)
    → ((((((((([] ++ a) ++ g) ++ b) ++ g) ++ c) ++ g) ++ d) ++ g) ++ e) ++ r ≡ a ++ (g ++ (b ++ (g ++ (c ++ (g ++ (d ++ (g ++ (e ++ r))))))))
five-joined a b c d e r g = rw (append_assoc, append_assoc, append_assoc, append_assoc, append_assoc, append_assoc, append_assoc, append_assoc) refl
