-- Each field of a line is read back from its columns.
use Prim.Native.Nat.{ℕ, zero, suc, ◌+◌, ◌*◌, ◌-◌, ◌/◌, ◌%◌, ◌^◌, ◌<◌, ◌≤◌}
use native.Mathlib.Nat.{pow-suc}
use native.Mathlib.Decide.{dec_lt}
use native.Mathlib.Omega.{arith}
use mathlib.Core.Bool.{Bool, true, false, cond, ◌||◌}
use mathlib.Core.List.{List, [], ◌∷◌, ◌++◌}
use mathlib.Core.Path.{◌≡◌, refl, sym, ap, ◌∙◌}
use lib.Dec.{eqb}
use lib.ListN.{length, take, length-append}
use borrow.Author.Tests.{ne_eqb, eqb-true}
use Rattle.rows.specs.Lists.{same_list, bytes}
use Rattle.rows.specs.Codes.{operation, subdirectory, client_end, server_end, is_operation, is_subdirectory, is_client, is_server, in_node, in_clist, with_system, is_node, is_clist, is_system, owner_of}
use mathlib.Core.Logic.{inl, inr}
use Rattle.rows.proofs.Bools.{or_cases}
use Rattle.text.specs.Answers.{decimal, digits_of}
use Rattle.text.proofs.ReplyLaws.{decimal-more, decimal-one}
use Rattle.page.specs.Page.{spaces, left_in, right_in, kind_text, place_text}
use Rattle.page.specs.ReadBack.{worth, number_in, kind_in, place_in}
use Rattle.page.proofs.ColumnLaws.{right-fits, take-spaced, one-digit, two_digits, node-short, clist-owner}

-- ---- numbers
worth-append : (n : ℕ) (xs ys : List ℕ) → worth n (xs ++ ys) ≡ worth (worth n xs) ys
unfolding worth
worth-append n [] ys = refl
worth-append n (x ∷ xs) ys = worth-append (cond (eqb x 32) n (n * 10 + (x - 48))) xs ys

worth-spaces : (n k : ℕ) → worth n (spaces k) ≡ n
unfolding worth spaces
worth-spaces n zero = refl
worth-spaces n (suc k) = worth-spaces n k

worth-digit : (n d : ℕ) → d < 10 → worth n ((48 + d) ∷ []) ≡ n * 10 + d
unfolding worth
worth-digit n d h = let same : 48 + d - 48 ≡ d = omega arith in rw (ne_eqb (48 + d) 32 (λ e. omega arith), same) refl

-- the digits of n are worth n
worth-decimal : (d n : ℕ) → n < 10 ^ d → worth 0 (decimal d n) ≡ n
unfolding worth decimal
worth-decimal zero n h = omega (arith, h)
worth-decimal (suc d) n h = elim (dec_lt n 10) [
  | yes one ↦
      let m : n % 10 ≡ n = omega arith in
      ap (worth 0) (decimal-one d n one) ∙ worth-digit 0 (n % 10) (omega arith) ∙ omega arith
  | no more ↦
      ap (worth 0) (decimal-more d n (omega arith)) ∙ worth-append 0 (decimal d (n / 10)) ((48 + n % 10) ∷ [])
      ∙ ap (λ (v : ℕ). worth v ((48 + n % 10) ∷ [])) (worth-decimal d (n / 10) (omega (arith, pow-suc 10 d, h)))
      ∙ worth-digit (n / 10) (n % 10) (omega arith) ∙ omega arith
]

digits-worth : (n : ℕ) → n < 10 ^ 10 → worth 0 (digits_of n) ≡ n
unfolding digits_of
digits-worth n h = worth-decimal 10 n h

-- right-aligned, where they have room
pub right-back : (w n : ℕ) → n < 10 ^ 10 → length (digits_of n) ≤ w → number_in (right_in w (digits_of n)) ≡ n
unfolding number_in
right-back w n small fits =
    let k = w - length (digits_of n) in
    ap (worth 0) (right-fits w (digits_of n) k (omega arith)) ∙ worth-append 0 (spaces k) (digits_of n)
    ∙ ap (λ (v : ℕ). worth v (digits_of n)) (worth-spaces 0 k) ∙ digits-worth n small

-- left-aligned
left_back : (w m n : ℕ) → n < 10 ^ 10 → length (digits_of n) ≤ w → w ≤ m → number_in (take w (digits_of n ++ spaces m)) ≡ n
unfolding number_in
left_back w m n small fits wide =
    let k = w - length (digits_of n) in
    ap (worth 0) (take-spaced w (digits_of n) k m (omega arith) (omega arith)) ∙ worth-append 0 (digits_of n) (spaces k)
    ∙ worth-spaces (worth 0 (digits_of n)) k ∙ digits-worth n small

decimal-short : (d n : ℕ) → length (decimal d n) ≤ d
unfolding decimal
decimal-short zero n = omega arith
decimal-short (suc d) n = elim (dec_lt n 10) [
  | yes one ↦ let e = ap length (decimal-one d n one) in omega (arith, e)
  | no more ↦
      let e = ap length (decimal-more d n (omega arith)) in
      omega (arith, e, length-append (decimal d (n / 10)) ((48 + n % 10) ∷ []), decimal-short d (n / 10))
]

pub ten-digits : (n : ℕ) → length (digits_of n) ≤ 10
unfolding digits_of
ten-digits n = decimal-short 10 n

pub below-hundred : (n : ℕ) → n < 100 → length (digits_of n) ≤ 2
below-hundred n h = elim (dec_lt n 10) [
  | yes one ↦ omega (arith, one-digit n one)
  | no more ↦ omega (arith, two_digits n (omega arith) h)
]

-- ---- kinds and places
-- one of the four kinds
abbrev pub is_kind : ℕ → Bool
is_kind k = is_operation k || (is_subdirectory k || (is_client k || is_server k))

pub kind-back : (k : ℕ) → is_kind k ≡ true → kind_in (left_in 6 (kind_text k)) ≡ k
unfolding is_operation is_subdirectory is_client is_server operation subdirectory client_end server_end kind_in kind_text left_in spaces bytes same_list
kind-back k is = elim (or_cases (eqb k 1) _ is) [
  | inl op ↦ known 1 (eqb-true k 1 op) refl
  | inr more ↦ elim (or_cases (eqb k 2) _ more) [
    | inl dir ↦ known 2 (eqb-true k 2 dir) refl
    | inr ends ↦ elim (or_cases (eqb k 3) (eqb k 4) ends) [ inl client ↦ known 3 (eqb-true k 3 client) refl | inr server ↦ known 4 (eqb-true k 4 server) refl ]
  ]
]
  where
    known : (n : ℕ) → k ≡ n → kind_in (left_in 6 (kind_text n)) ≡ n → kind_in (left_in 6 (kind_text k)) ≡ k
    known n e back = rw e back

-- a node, a c-list or the system
abbrev pub is_place : ℕ → Bool
is_place p = is_node p || (is_clist p || is_system p)

pub place-back : (p : ℕ) → is_place p ≡ true → place_in (left_in 8 (place_text p)) ≡ p
unfolding place_in place_text left_in spaces bytes same_list is_system with_system in_node in_clist owner_of
place-back p is = pick (is_node p) refl
  where
    clist : (b : Bool) → is_clist p ≡ b → is_node p ≡ false → place_in (left_in 8 (place_text p)) ≡ p
    clist true e other =
        let owner = clist-owner p e in
        let back = left_back 3 8 (p - 100) (omega (arith, owner.1)) (omega (arith, below-hundred (p - 100) owner.1)) (omega arith) in
        rw (other, e) (ap (λ (n : ℕ). 100 + n) back ∙ omega (arith, owner.0))
    clist false e other =
        let system : eqb p 200 ≡ true = rw (other, e) at is in
        rw (other, e, system) (sym (eqb-true p 200 system))

    pick : (b : Bool) → is_node p ≡ b → place_in (left_in 8 (place_text p)) ≡ p
    pick true e =
        let short = node-short p e in
        rw e (left_back 3 8 p (omega arith) (omega (arith, below-hundred p short)) (omega arith))
    pick false e = clist (is_clist p) refl e
