-- Printed answers read back: the digits of a number give the number, `(ok n ..)` reads as accepted with n, `(no ..)` as refused.
use Prim.Native.Nat.{ℕ, zero, suc, ◌+◌, ◌-◌, ◌*◌, ◌/◌, ◌%◌, ◌^◌, ◌≤◌, ◌<◌}
use native.Mathlib.Omega.{arith}
use mathlib.Core.Path.{◌≡◌, refl, sym, ap, ◌∙◌}
use mathlib.Core.Bool.{Bool, true, false, cond}
use mathlib.Core.List.{List, [], ◌∷◌, ◌++◌, map, append_assoc}
use lib.ListN.{length, get_or, drop, length-append}
use lib.Seq.{append_snoc, get_or-drop}
use lib.Dec.{leb, ltb, eqb}
use borrow.Author.Tests.{ltb-true, ltb-false, lt-ltb, le-leb, eq-eqb, ne_eqb, eqb-true}
use Rattle.rows.specs.Lists.{bytes, between}
use Rattle.rows.specs.Limits.{greatest_number}
use Rattle.rows.proofs.Bools.{bool_eq}
use Rattle.calls.specs.Answers.{Value, num, dash}
use Rattle.text.specs.declared.Run.{Run}
use Rattle.text.specs.declared.Read.{Read}
use Rattle.text.specs.Patterns.{is_digit, grown_to, grown, run, digits, began, counted, passed, number, itself, piece, pieces, form, bad}
use Rattle.text.specs.Answers.{decimal, digits_of, value_text, spaced, ok_text, no_text}

-- ---- digits
digit-is : (k : ℕ) → k < 10 → is_digit (48 + k) ≡ true
unfolding is_digit between
digit-is k h = rw (le-leb 48 (48 + k) (omega arith), le-leb (48 + k) 57 (omega arith)) refl

-- what digits are worth, up to any limit
module _ (limit : ℕ) where
  abbrev worth : ℕ → ℕ → List ℕ → Run
  worth = run is_digit (grown_to limit)

  grown-digit : (n : ℕ) → n ≤ limit → grown_to limit (n / 10) (48 + n % 10) ≡ n
  unfolding grown_to
  grown-digit n h = let e : n / 10 * 10 + (48 + n % 10 - 48) ≡ n = omega arith in rw (e, le-leb n limit h) refl

  one_more : (v k i : ℕ) (t : List ℕ) → k < 10 → worth v i ((48 + k) ∷ t) ≡ worth (grown_to limit v (48 + k)) (suc i) t
  unfolding run
  one_more v k i t h = rw (digit-is k h) refl

  -- the digits of n are worth n
  pub run-decimal : (d n i : ℕ) (t : List ℕ) → n < 10 ^ d → n ≤ limit → worth 0 i (decimal d n ++ t) ≡ worth n (i + length (decimal d n)) t
  unfolding decimal
  run-decimal zero n i t h l = let z : n ≡ 0 = omega arith in let y : i + 0 ≡ i = omega arith in rw (z, y) refl
  run-decimal (suc d) n i t h l = pick (ltb n 10) refl (run-decimal d (n / 10) i ((48 + n % 10) ∷ t))
    where
      pick : (b : Bool) → ltb n 10 ≡ b
          → (n / 10 < 10 ^ d → n / 10 ≤ limit
          → worth 0 i (decimal d (n / 10) ++ ((48 + n % 10) ∷ t)) ≡ worth (n / 10) (i + length (decimal d (n / 10))) ((48 + n % 10) ∷ t))
          → worth 0 i (cond b ((48 + n) ∷ []) (decimal d (n / 10) ++ ((48 + n % 10) ∷ [])) ++ t)
          ≡ worth n (i + length (cond b ((48 + n) ∷ []) (decimal d (n / 10) ++ ((48 + n % 10) ∷ [])))) t
      pick true e ih =
          let lt : n < 10 = ltb-true n 10 e in
          let q : n / 10 ≡ 0 = omega arith in
          let m : n % 10 ≡ n = omega arith in
          let g : grown_to limit 0 (48 + n) ≡ n = rw (q, m) at (grown-digit n l) in
          let j : suc i ≡ i + 1 = omega arith in
          one_more 0 n i t lt ∙ (rw (g, j) refl)
      pick false e ih =
          let j : suc (i + length (decimal d (n / 10))) ≡ i + (length (decimal d (n / 10)) + 1) = omega arith in
          rw (append_snoc, length-append)
          (ih (omega arith) (omega arith) ∙ one_more (n / 10) (n % 10) (i + length (decimal d (n / 10))) t (omega arith) ∙ (rw (grown-digit n l, j) refl))

-- s begins with a digit, with 0 only if n is 0
pub record Leads (s : List ℕ) (n : ℕ) : Type 0 where
  pub digit : is_digit (get_or s 0 0) ≡ true
  pub zeros : eqb (get_or s 0 0) 48 ≡ eqb n 0

leads_one : (n : ℕ) (t : List ℕ) → n < 10 → Leads ((48 + n) ∷ t) n
leads_one n t h =
    record {
      digit = digit-is n h;
      zeros = bool_eq (eqb (48 + n) 48) (eqb n 0) (λ e. let q = eqb-true (48 + n) 48 e in eq-eqb n 0 (omega arith)) (λ e. let q = eqb-true n 0 e in eq-eqb (48 + n) 48 (omega arith));
    }

pub leads-decimal : (d n : ℕ) (t : List ℕ) → n < 10 ^ suc d → Leads (decimal (suc d) n ++ t) n
unfolding decimal
leads-decimal zero n t h = let l : n < 10 = omega arith in rw (lt-ltb n 10 l) (leads_one n t l)
leads-decimal (suc d) n t h = pick (ltb n 10) refl (leads-decimal d (n / 10) ((48 + n % 10) ∷ t))
  where
    pick : (b : Bool) → ltb n 10 ≡ b → (n / 10 < 10 ^ suc d → Leads (decimal (suc d) (n / 10) ++ ((48 + n % 10) ∷ t)) (n / 10))
        → Leads (cond b ((48 + n) ∷ []) (decimal (suc d) (n / 10) ++ ((48 + n % 10) ∷ [])) ++ t) n
    pick true e ih = leads_one n t (ltb-true n 10 e)
    pick false e ih =
        let big : 10 ≤ n = ltb-false n 10 e in
        let l = ih (omega arith) in
        rw append_snoc (record { digit = l.digit; zeros = l.zeros ∙ ne_eqb (n / 10) 0 (omega arith) ∙ sym (ne_eqb n 0 (omega arith)) })

-- ---- how long a number is
decimal-short : (d n : ℕ) → length (decimal d n) ≤ d
unfolding decimal
decimal-short zero n = omega arith
decimal-short (suc d) n = pick (leb (suc n) 10) (decimal-short d (n / 10))
  where
    pick : (b : Bool) → length (decimal d (n / 10)) ≤ d → length (cond b ((48 + n) ∷ []) (decimal d (n / 10) ++ ((48 + n % 10) ∷ []))) ≤ suc d
    pick true h = omega arith
    pick false h = let e = length-append (decimal d (n / 10)) ((48 + n % 10) ∷ []) in omega arith

pub digits-short : (n : ℕ) → length (digits_of n) ≤ 10
unfolding digits_of
digits-short n = decimal-short 10 n

-- ---- a printed number
pub run_ends : (test : ℕ → Bool) (more : ℕ → ℕ → ℕ) (v i : ℕ) (u : List ℕ) → test (get_or u 0 0) ≡ false → run test more v i u ≡ record { value = v; next = i }
unfolding run
run_ends test more v i [] e = refl
run_ends test more v i (b ∷ u) e = rw e refl

-- what is read where the digits of n stand, with no digit after them
record Gives (f : Read) (n : ℕ) : Type 0 where
  good : f.good ≡ true
  value : f.c ≡ n

number-printed : (s : List ℕ) (r : Read) (n : ℕ) (t : List ℕ) → drop r.next s ≡ digits_of n ++ t → n ≤ greatest_number → is_digit (get_or t 0 0) ≡ false → Gives (number s r) n
unfolding number counted digits digits_of grown greatest_number
number-printed s r n t e h z =
    let lt : n < 10 ^ 10 = omega arith in
    let l = leads-decimal 9 n t lt in
    let there : r.next ≡ r.next + 0 = omega arith in
    let begins : get_or s r.next 0 ≡ get_or (decimal 10 n ++ t) 0 0 = ap (λ k. get_or s k 0) there ∙ sym (get_or-drop r.next s 0 0) ∙ ap (λ x. get_or x 0 0) e in
    let worth : (run is_digit grown 0 r.next (drop r.next s)).value ≡ n =
    ap (λ x. (run is_digit grown 0 r.next x).value) e ∙ ap (λ x. x.value) (run-decimal (suc greatest_number) 10 n r.next t lt (omega arith)) ∙ ap (λ x. x.value) (run_ends is_digit grown n (r.next + length (decimal 10 n)) t z) in
    rw (begins, l.zeros, l.digit) (pick worth (eqb n 0) refl)
  where
    pick : (run is_digit grown 0 r.next (drop r.next s)).value ≡ n → (b : Bool) → eqb n 0 ≡ b
        → Gives (cond b (counted r (record { value = 0; next = r.next + 1 })) (counted r (run is_digit grown 0 r.next (drop r.next s)))) n
    pick worth true q = record { good = refl; value = sym (eqb-true n 0 q) }
    pick worth false q = record { good = refl; value = worth }

-- ---- answers
after-value : (vs : List Value) → is_digit (get_or (spaced vs ++ bytes ")\n") 0 0) ≡ false
unfolding spaced bytes is_digit between
after-value [] = refl
after-value (v ∷ vs) = refl

ok_prefix : (u : List ℕ) → form (40 ∷ 111 ∷ 107 ∷ 32 ∷ u) 0 "(ok " ≡ began 4
unfolding form pieces piece itself passed began bytes
ok_prefix u = rw (there 0 (omega arith), there 1 (omega arith), there 2 (omega arith), there 3 (omega arith)) refl
  where
    there : (i : ℕ) → i < 4 → ltb i (suc (suc (suc (suc (length u))))) ≡ true
    there i h = lt-ltb i (suc (suc (suc (suc (length u))))) (omega arith)

-- an accepted answer, whatever its first value
pub read_ok : (v : Value) (vs : List Value) → (form (ok_text (v ∷ vs)) 0 "(ok ").good ≡ true
unfolding ok_text spaced bytes began
read_ok v vs = ap (λ (f : Read). f.good) (ok_prefix ((value_text v ++ spaced vs) ++ bytes ")\n"))

ok-number : (u : List ℕ) → form (40 ∷ 111 ∷ 107 ∷ 32 ∷ u) 0 "(ok #" ≡ number (40 ∷ 111 ∷ 107 ∷ 32 ∷ u) (began 4)
unfolding form pieces piece bytes began
ok-number u = ap (λ (r : Read). piece (40 ∷ 111 ∷ 107 ∷ 32 ∷ u) r 35) (ok_prefix u)

-- its first value: a number, or none
pub read_number : (n : ℕ) (vs : List Value) → n ≤ greatest_number → (form (ok_text (num n ∷ vs)) 0 "(ok #").c ≡ n
unfolding ok_text spaced value_text bytes began
read_number n vs h =
    rw (ok-number (digits_of n ++ spaced vs ++ bytes ")\n"))
    (number-printed (40 ∷ 111 ∷ 107 ∷ 32 ∷ (digits_of n ++ spaced vs ++ bytes ")\n")) (began 4) n (spaced vs ++ bytes ")\n") (append_assoc (digits_of n) (spaced vs) (bytes ")\n")) h (after-value vs)).value

pub read-dash : (vs : List Value) → (form (ok_text (dash ∷ vs)) 0 "(ok #").c ≡ 0
unfolding ok_text spaced value_text bytes number began bad is_digit between
read-dash vs = ap (λ (r : Read). r.c) (ok-number (45 ∷ (spaced vs ++ bytes ")\n")))

no-prefix : (u : List ℕ) → (form (40 ∷ 110 ∷ 111 ∷ u) 0 "(ok ").good ≡ false
unfolding form pieces piece itself passed began bytes bad
no-prefix u = rw (lt-ltb 0 (suc (suc (suc (length u)))) (omega arith), lt-ltb 1 (suc (suc (suc (length u)))) (omega arith)) refl

pub read_no : (ns : List ℕ) → (form (no_text ns) 0 "(ok ").good ≡ false
unfolding no_text bytes
read_no ns = no-prefix (spaced (map num ns) ++ bytes ")\n")
