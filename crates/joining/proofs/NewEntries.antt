-- What is new is added, one after the other: laws of lists, and of the codes that the code keeps.
use Prim.Native.Nat.{ℕ, ◌+◌, ◌≤◌, ◌<◌}
use native.Mathlib.Numerals.{add-one}
use native.Mathlib.Omega.{arith}
use mathlib.Core.Bool.{Bool, true, false, cond, ◌||◌}
use mathlib.Core.List.{List, [], ◌∷◌, ◌++◌}
use mathlib.Core.Path.{◌≡◌, refl, sym, ap, subst, ◌∙◌}
use lib.Dec.{eqb}
use lib.ListN.{length, get_or, set, take, length-append, length-set}
use lib.Seq.{take-suc, take_all, length-take-le}
use Rattle.rows.specs.Lists.{any, all, member, pad}
use Rattle.rows.proofs.Bools.{and_l, and_r, and_i}
use Rattle.rows.proofs.Lists.{all_append}
use Rattle.changes.proofs.Put.{set-pad-end}
use Rattle.text.proofs.GroupLaws.{take-pad}
use Rattle.joining.specs.declared.Codes.{Codes}
use Rattle.joining.specs.Joins.{with_new, with_all_new}
use Rattle.joining.specs.vocabulary.Directories.{ENTRIES}
use Rattle.joining.specs.vocabulary.Merged.{CODES, in_codes}

-- ---- lists
module _ {A : Type 0} (same : A → A → Bool) where
  pub all-new-snoc : (w xs : List A) (x : A) → with_all_new same w (xs ++ (x ∷ [])) ≡ with_new same (with_all_new same w xs) x
  unfolding with_all_new
  all-new-snoc w [] x = refl
  all-new-snoc w (y ∷ xs) x = all-new-snoc (with_new same w y) xs x

  pub new-old : (w : List A) (x : A) → any (same x) w ≡ true → with_new same w x ≡ w
  unfolding with_new
  new-old w x e = rw e refl

  pub new-new : (w : List A) (x : A) → any (same x) w ≡ false → with_new same w x ≡ w ++ (x ∷ [])
  unfolding with_new
  new-new w x e = rw e refl

  -- what holds of all that are written and of all that may be added
  pub new-all : (f : A → Bool) (w : List A) (x : A) → all f w ≡ true → f x ≡ true → all f (with_new same w x) ≡ true
  unfolding with_new all
  new-all f w x h e = pick (any (same x) w)
    where
      pick : (b : Bool) → all f (cond b w (w ++ (x ∷ []))) ≡ true
      pick true = h
      pick false = all_append f w (x ∷ []) h (and_i (f x) true e refl)

  pub all-new-all : (f : A → Bool) (xs w : List A) → all f w ≡ true → all f xs ≡ true → all f (with_all_new same w xs) ≡ true
  unfolding with_all_new all
  all-new-all f [] w h e = h
  all-new-all f (x ∷ xs) w h e = all-new-all f xs (with_new same w x) (new-all f w x h (and_l (f x) (all f xs) e)) (and_r (f x) (all f xs) e)

  new-length : (w : List A) (x : A) → length (with_new same w x) ≤ length w + 1
  unfolding with_new
  new-length w x = pick (any (same x) w)
    where
      pick : (b : Bool) → length (cond b w (w ++ (x ∷ []))) ≤ length w + 1
      pick true = omega arith
      pick false = let e = length-append w (x ∷ []) in omega arith

  pub all-new-length : (w xs : List A) → length (with_all_new same w xs) ≤ length w + length xs
  unfolding with_all_new
  all-new-length w [] = omega arith
  all-new-length w (x ∷ xs) = let h = all-new-length (with_new same w x) xs in let k = new-length w x in omega arith

pub any-member : (x : ℕ) (ns : List ℕ) → any (eqb x) ns ≡ member x ns
unfolding any member
any-member x [] = refl
any-member x (n ∷ ns) = ap (λ (b : Bool). eqb x n || b) (any-member x ns)

-- ---- codes copied one by one
pad-next : (k : ℕ) (l : List ℕ) (i v : ℕ) → length l ≡ i → i < k → set (pad 0 k l) i v ≡ pad 0 k (l ++ (v ∷ []))
pad-next k l i v e h = subst (λ (j : ℕ). j < k → set (pad 0 k l) j v ≡ pad 0 k (l ++ (v ∷ []))) e (λ h. set-pad-end k l v h) h

pub copied_more : (codes copied : List ℕ) (i : ℕ) → i < length codes → i < CODES → copied ≡ pad 0 CODES (take i codes)
    → set copied i (get_or codes i 0) ≡ pad 0 CODES (take (i + 1) codes)
copied_more codes copied i h k e =
    ap (λ (l : List ℕ). set l i (get_or codes i 0)) e ∙ pad-next CODES (take i codes) i (get_or codes i 0) (length-take-le i codes (omega arith)) k
    ∙ ap (pad 0 CODES) (sym (rw add-one (take-suc codes i 0 h)))

-- ---- what is new is added one by one: the codes of c, and of the others the first i
pub record Adding (c : Codes) (others : List ℕ) (i count : ℕ) (codes : List ℕ) : Type 0 where
  pub long : length codes ≡ CODES
  pub room : count ≤ ENTRIES + i
  pub is : (cs : List ℕ) → c ≡ in_codes cs → record { count = count; codes = codes } ≡ in_codes (with_all_new eqb cs (take i others))

pub adding-starts : (c : Codes) (others : List ℕ) → c.count ≤ ENTRIES → length c.codes ≡ CODES → Adding c others 0 c.count c.codes
unfolding with_all_new
adding-starts c others few long = record { long = long; room = omega arith; is = λ cs e. e }

module _ (c : Codes) (others : List ℕ) (i count : ℕ) (codes : List ℕ) (k : Adding c others i count codes) (h : i < length others) (small : count < CODES) where
  x : ℕ
  x = get_or others i 0

  -- the codes that are kept
  codes-kept : (cs : List ℕ) → c ≡ in_codes cs → take count codes ≡ with_all_new eqb cs (take i others)
  unfolding in_codes
  codes-kept cs e =
      let l = with_all_new eqb cs (take i others) in
      let n : count ≡ length l = ap (λ (r : Codes). r.count) (k.is cs e) in
      let p : codes ≡ pad 0 CODES l = ap (λ (r : Codes). r.codes) (k.is cs e) in
      ap (λ (m : ℕ). take m codes) n ∙ ap (take (length l)) p ∙ take-pad CODES l (omega arith)

  one_more : (cs : List ℕ) → with_all_new eqb cs (take (i + 1) others) ≡ with_new eqb (with_all_new eqb cs (take i others)) x
  unfolding x
  one_more cs = ap (with_all_new eqb cs) (rw add-one (take-suc others i 0 h)) ∙ all-new-snoc eqb cs (take i others) (get_or others i 0)

  named_in : (m : ℕ) → m ≡ count → (b : Bool) → member x (take m codes) ≡ b → (cs : List ℕ) → c ≡ in_codes cs → any (eqb x) (with_all_new eqb cs (take i others)) ≡ b
  named_in m same b t cs e =
      any-member x (with_all_new eqb cs (take i others)) ∙ ap (member x) (sym (codes-kept cs e)) ∙ ap (λ (j : ℕ). member x (take j codes)) (sym same) ∙ t

  pub adding-old : (m : ℕ) → m ≡ count → member (get_or others i 0) (take m codes) ≡ true → Adding c others (i + 1) count codes
  unfolding x
  adding-old m same t =
      let r = k.room in
      record {
        long = k.long;
        room = omega arith;
        is = λ cs e. k.is cs e ∙ ap in_codes (sym (one_more cs ∙ new-old eqb (with_all_new eqb cs (take i others)) x (named_in m same true t cs e)));
      }

  pub adding-new : (m : ℕ) → m ≡ count → member (get_or others i 0) (take m codes) ≡ false → Adding c others (i + 1) (count + 1) (set codes count (get_or others i 0))
  unfolding x in_codes
  adding-new m same t =
      let r = k.room in
      record {
        long = length-set codes count (get_or others i 0) ∙ k.long;
        room = omega arith;
        is = λ cs e.
            let l = with_all_new eqb cs (take i others) in
            let n : count ≡ length l = ap (λ (r : Codes). r.count) (k.is cs e) in
            let p : codes ≡ pad 0 CODES l = ap (λ (r : Codes). r.codes) (k.is cs e) in
            let more : with_all_new eqb cs (take (i + 1) others) ≡ l ++ (get_or others i 0 ∷ []) = one_more cs ∙ new-new eqb l x (named_in m same false t cs e) in
            let size : count + 1 ≡ length (l ++ (get_or others i 0 ∷ [])) = (let z = length-append l (get_or others i 0 ∷ []) in omega arith) in
            (λ j. record { count = size j; codes = (ap (λ (q : List ℕ). set q count (get_or others i 0)) p ∙ pad-next CODES l count (get_or others i 0) (sym n) small) j })
            ∙ ap in_codes (sym more);
      }

pub adding-ends : (c : Codes) (others : List ℕ) (i count : ℕ) (codes : List ℕ) → Adding c others i count codes → length others ≤ i
    → (cs : List ℕ) → c ≡ in_codes cs → record { count = count; codes = codes } ≡ in_codes (with_all_new eqb cs others)
adding-ends c others i count codes k h cs e = k.is cs e ∙ ap (λ (os : List ℕ). in_codes (with_all_new eqb cs os)) (take_all i others h)
