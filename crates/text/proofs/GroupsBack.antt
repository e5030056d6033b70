-- Groups of two numbers, written in brackets, read back as themselves.
use Prim.Native.Nat.{ℕ, zero, suc, ◌*◌, ◌≤◌}
use native.Mathlib.Omega.{arith}
use mathlib.Core.Path.{◌≡◌, refl, sym, ap, subst, ◌∙◌}
use mathlib.Core.Bool.{Bool, true, false, ◌&&◌}
use mathlib.Core.List.{List, [], ◌∷◌, ◌++◌, append_assoc}
use lib.Dec.{leb}
use lib.ListN.{length, get_or, length-append}
use borrow.Author.Tests.{leb-true}
use Rattle.rows.specs.Lists.{bytes, between, all}
use Rattle.rows.specs.Limits.{greatest_number}
use Rattle.rows.proofs.Bools.{and_l, and_r}
use Rattle.text.specs.declared.Read.{Read}
use Rattle.text.specs.Patterns.{is_digit, bad, began, form, whole}
use Rattle.text.specs.CallLines.{Group, Gathered, group_of, add_group, gathered}
use Rattle.text.specs.Answers.{digits_of}
use Rattle.text.specs.ReadBack.{groups_text}
use Rattle.text.proofs.Answers.{digits-short}
use Rattle.text.proofs.Cursor.{At, at-skip, at_next, reading, takes-byte, other_byte, takes-number, then-reads, reads_all, then-bad, ends}

-- both numbers are read as they are
unfoldable pub group_fits : Group → Bool
group_fits x = leb x.first greatest_number && leb x.second greatest_number

pub groups-lead : (xs : List Group) → is_digit (get_or (groups_text xs ++ (41 ∷ 10 ∷ [])) 0 0) ≡ false
unfolding groups_text bytes is_digit between
groups-lead [] = refl
groups-lead (x ∷ xs) = refl

pub groups-short : (xs : List Group) → length (groups_text xs) ≤ 24 * length xs
unfolding groups_text bytes
groups-short [] = omega arith
groups-short (x ∷ xs) =
    let h = groups-short xs in
    let r = digits-short x.first in
    let t = digits-short x.second in
    let y = length-append (digits_of x.first) (32 ∷ (digits_of x.second ++ (41 ∷ groups_text xs))) in
    let z = length-append (digits_of x.second) (41 ∷ groups_text xs) in
    omega arith

-- all groups are gathered, and the reader stands before the last bracket
pub record Gathers (s : List ℕ) (xs : List Group) (g : Gathered) : Type 0 where
  pub groups : g.groups ≡ xs
  pub there : At s g.next (41 ∷ 10 ∷ [])

-- the text after a group's own
regroup : (x : Group) (xs : List Group) → groups_text (x ∷ xs) ++ (41 ∷ 10 ∷ [])
    ≡ 32 ∷ 40 ∷ (digits_of x.first ++ (32 ∷ (digits_of x.second ++ (41 ∷ (groups_text xs ++ (41 ∷ 10 ∷ []))))))
unfolding groups_text bytes
regroup x xs =
    ap (λ (l : List ℕ). 32 ∷ 40 ∷ l)
    (append_assoc (digits_of x.first) (32 ∷ (digits_of x.second ++ (41 ∷ groups_text xs))) (41 ∷ 10 ∷ [])
    ∙ ap (λ (l : List ℕ). digits_of x.first ++ (32 ∷ l)) (append_assoc (digits_of x.second) (41 ∷ groups_text xs) (41 ∷ 10 ∷ [])))

-- one group
record Taken (s : List ℕ) (x : Group) (u : List ℕ) (f : Read) : Type 0 where
  good : f.good ≡ true
  group : group_of f ≡ x
  there : At s f.next u

take-group : (s : List ℕ) (j : ℕ) (x : Group) (u : List ℕ) → group_fits x ≡ true
    → At s j (32 ∷ 40 ∷ (digits_of x.first ++ (32 ∷ (digits_of x.second ++ (41 ∷ u))))) → Taken s x u (form s j " (# #)")
unfolding form began bytes is_digit between group_of group_fits
take-group s j x u r a0 =
    let first : x.first ≤ greatest_number = leb-true x.first greatest_number (and_l (leb x.first greatest_number) (leb x.second greatest_number) r) in
    let second : x.second ≤ greatest_number = leb-true x.second greatest_number (and_r (leb x.first greatest_number) (leb x.second greatest_number) r) in
    let a1 = at_next s j 32 _ a0 in
    let a2 = at_next s _ 40 _ a1 in
    let a3 = at-skip s _ (digits_of x.first) _ a2 in
    let a4 = at_next s _ 32 _ a3 in
    let a5 = at-skip s _ (digits_of x.second) _ a4 in
    subst (Taken s x u)
    (sym (then-reads s _ _ _ 32 _ (takes-byte s j 0 0 0 0 32 _ a0 refl refl)
    (then-reads s _ _ _ 40 _ (takes-byte s _ 0 0 0 0 40 _ a1 refl refl)
    (then-reads s _ _ _ 35 _ (takes-number s _ 0 0 0 0 x.first _ a2 first refl)
    (then-reads s _ _ _ 32 _ (takes-byte s _ 0 0 0 x.first 32 _ a3 refl refl)
    (then-reads s _ _ _ 35 _ (takes-number s _ 0 0 0 x.first x.second _ a4 second refl)
    (then-reads s _ _ _ 41 _ (takes-byte s _ 0 0 x.first x.second 41 _ a5 refl refl) (reads_all s _))))))))
    (record { good = refl; group = refl; there = at_next s _ 41 _ a5 })

no-group : (s : List ℕ) (j : ℕ) (u : List ℕ) → At s j (41 ∷ u) → (form s j " (# #)").good ≡ false
unfolding form began bytes bad
no-group s j u a = ap (λ (f : Read). f.good) (then-bad s (reading j 0 0 0 0) 32 (40 ∷ 35 ∷ 32 ∷ 35 ∷ 41 ∷ []) (other_byte s j 0 0 0 0 41 32 u a refl refl refl))

pub gather-groups : (s : List ℕ) (k : ℕ) (xs : List Group) (j : ℕ) → length xs ≤ k → all group_fits xs ≡ true → At s j (groups_text xs ++ (41 ∷ 10 ∷ [])) → Gathers s xs (gathered k s j)
unfolding gathered groups_text bytes all add_group group_of
gather-groups s zero [] j h r a = record { groups = refl; there = a }
gather-groups s zero (x ∷ xs) j h r a = absurd (omega arith)
gather-groups s (suc k) [] j h r a =
    rw (no-group s j (10 ∷ []) a) (record { groups = refl; there = a })
gather-groups s (suc k) (x ∷ xs) j h r a =
    let here : group_fits x ≡ true = and_l (group_fits x) (all group_fits xs) r in
    let t = take-group s j x (groups_text xs ++ (41 ∷ 10 ∷ [])) here (subst (At s j) (regroup x xs) a) in
    let g = gather-groups s k xs (form s j " (# #)").next (omega arith) (and_r (group_fits x) (all group_fits xs) r) t.there in
    rw t.good (record { groups = λ m. t.group m ∷ g.groups m; there = g.there })

pub last-bracket : (s : List ℕ) (j : ℕ) → At s j (41 ∷ 10 ∷ []) → whole s (form s j ")\n") ≡ true
unfolding form began bytes
last-bracket s j a =
    let a1 = at_next s j 41 _ a in
    subst (λ (f : Read). whole s f ≡ true)
    (sym (then-reads s _ _ _ 41 _ (takes-byte s j 0 0 0 0 41 _ a refl refl) (then-reads s _ _ _ 10 _ (takes-byte s _ 0 0 0 0 10 _ a1 refl refl) (reads_all s _))))
    (ends s _ 0 0 0 0 (at_next s _ 10 _ a1))
