-- The calls that have no caller, written as lines, read back as themselves.
use Prim.Native.Nat.{ℕ, suc, ◌+◌, ◌≤◌}
use native.Mathlib.Omega.{arith}
use mathlib.Core.Path.{◌≡◌, refl, ◌∙◌}
use mathlib.Core.Bool.{Bool, true, false, cond}
use mathlib.Core.List.{List, [], ◌∷◌, ◌++◌}
use lib.Dec.{leb, eqb}
use lib.ListN.{length}
use borrow.Author.Tests.{leb-true, le-leb, le-ltb}
use Rattle.rows.specs.Lists.{bytes, between, all, some}
use Rattle.rows.specs.Limits.{greatest_number, most_bytes, most_pairs}
use Rattle.rows.proofs.Bools.{and_l, and_r, and_i, all-mono}
use Rattle.calls.specs.declared.Sixteen.{Sixteen}
use Rattle.calls.specs.declared.Call.TheVariants.{Comes, Chain}
use Rattle.calls.specs.Answers.{numbers_of, all_of}
use Rattle.text.specs.declared.Reading.{Reading}
use Rattle.text.specs.declared.Reading.TheVariants.{Asks}
use Rattle.text.specs.Patterns.{is_digit, bad, began, pieces, form, whole, most_groups}
use Rattle.text.specs.CallLines.{is_number, ranged, simple_form, answer_form, chain_form, comes_form, Group, gathered, pair_ranged, comes_all, judged_pairs, comes_all_form, ask_form, reading_of}
use Rattle.text.specs.Answers.{digits_of}
use Rattle.text.specs.ReadBack.{groups_text, paired, pairs_of}
use Rattle.text.proofs.Answers.{digits-short}
use Rattle.text.proofs.Cursor.{At, at-start, at-skip, at_next, reading, takes-byte, other_byte, no_number, takes-number, then-reads, reads_all, then-bad, ends}
use Rattle.text.proofs.GroupsBack.{group_fits, gather-groups, last-bracket}

-- ---- a line that is not too long
pub short : (s : List ℕ) → length s ≤ 256 → reading_of s ≡ ask_form s (comes_all_form s (comes_form s (simple_form s (answer_form s (chain_form s)))))
unfolding reading_of most_bytes
short s h = rw (le-ltb 256 (length s) h) refl

pub number_fits : (n : ℕ) → is_number n ≡ true → n ≤ greatest_number
unfolding is_number between
number_fits n e = leb-true n greatest_number (and_r (leb 1 n) (leb n greatest_number) e)

-- ---- a line whose second byte is a c has no caller
no-caller : (s u ps : List ℕ) → At s 0 (40 ∷ 99 ∷ u) → pieces s (reading 0 0 0 0 0) (40 ∷ 35 ∷ ps) ≡ bad
unfolding is_digit between
no-caller s u ps a0 =
    then-reads s (reading 0 0 0 0 0) _ bad 40 (35 ∷ ps) (takes-byte s 0 0 0 0 0 40 _ a0 refl refl)
    (then-bad s (reading 1 0 0 0 0) 35 ps (no_number s 1 0 0 0 0 99 u (at_next s 0 40 _ a0) refl refl))

uncalled-no-ask : (s u : List ℕ) (other : Reading) → At s 0 (40 ∷ 99 ∷ u) → ask_form s other ≡ other
unfolding ask_form form began bytes bad
uncalled-no-ask s u other a0 = rw (no-caller s u (32 ∷ 97 ∷ 115 ∷ 107 ∷ 32 ∷ 35 ∷ []) a0) refl

uncalled-no-simple : (s u : List ℕ) (other : Reading) → At s 0 (40 ∷ 99 ∷ u) → simple_form s other ≡ other
unfolding simple_form whole form began bytes bad
uncalled-no-simple s u other a0 = rw (no-caller s u (32 ∷ 64 ∷ 32 ∷ 35 ∷ 41 ∷ 10 ∷ []) a0) refl

uncalled-no-answer : (s u : List ℕ) (other : Reading) → At s 0 (40 ∷ 99 ∷ u) → answer_form s other ≡ other
unfolding answer_form whole form began bytes bad
uncalled-no-answer s u other a0 = rw (no-caller s u (32 ∷ 97 ∷ 110 ∷ 115 ∷ 119 ∷ 101 ∷ 114 ∷ 32 ∷ 35 ∷ 32 ∷ 35 ∷ 41 ∷ 10 ∷ []) a0) refl

-- ---- comes
comes-read : (s : List ℕ) (e q : ℕ) → e ≤ greatest_number → q ≤ greatest_number → At s 0 (bytes "(comes " ++ (digits_of e ++ (32 ∷ (digits_of q ++ (41 ∷ 10 ∷ [])))))
    → (form s 0 "(comes # #)\n" ≡ reading (7 + length (digits_of e) + 1 + length (digits_of q) + 1 + 1) 0 0 e q) × At s (7 + length (digits_of e) + 1 + length (digits_of q) + 1 + 1) []
unfolding form began bytes is_digit between
comes-read s e q he hq a0 =
    let a1 = at_next s 0 40 _ a0 in
    let a2 = at_next s 1 99 _ a1 in
    let a3 = at_next s 2 111 _ a2 in
    let a4 = at_next s 3 109 _ a3 in
    let a5 = at_next s 4 101 _ a4 in
    let a6 = at_next s 5 115 _ a5 in
    let a7 = at_next s 6 32 _ a6 in
    let a8 = at-skip s 7 (digits_of e) _ a7 in
    let a9 = at_next s _ 32 _ a8 in
    let b1 = at-skip s _ (digits_of q) _ a9 in
    let b2 = at_next s _ 41 _ b1 in (
      then-reads s _ _ _ 40 _ (takes-byte s 0 0 0 0 0 40 _ a0 refl refl)
          (then-reads s _ _ _ 99 _ (takes-byte s 1 0 0 0 0 99 _ a1 refl refl)
          (then-reads s _ _ _ 111 _ (takes-byte s 2 0 0 0 0 111 _ a2 refl refl)
          (then-reads s _ _ _ 109 _ (takes-byte s 3 0 0 0 0 109 _ a3 refl refl)
          (then-reads s _ _ _ 101 _ (takes-byte s 4 0 0 0 0 101 _ a4 refl refl)
          (then-reads s _ _ _ 115 _ (takes-byte s 5 0 0 0 0 115 _ a5 refl refl)
          (then-reads s _ _ _ 32 _ (takes-byte s 6 0 0 0 0 32 _ a6 refl refl)
          (then-reads s _ _ _ 35 _ (takes-number s 7 0 0 0 0 e _ a7 he refl)
          (then-reads s _ _ _ 32 _ (takes-byte s _ 0 0 0 e 32 _ a8 refl refl)
          (then-reads s _ _ _ 35 _ (takes-number s _ 0 0 0 e q _ a9 hq refl)
          (then-reads s _ _ _ 41 _ (takes-byte s _ 0 0 e q 41 _ b1 refl refl)
          (then-reads s _ _ _ 10 _ (takes-byte s _ 0 0 e q 10 _ b2 refl refl) (reads_all s _)))))))))))),
      at_next s _ 10 _ b2,
    )

-- it is no comesall: a space follows its word
comes-no-all : (s u : List ℕ) (other : Reading) → At s 0 (40 ∷ 99 ∷ 111 ∷ 109 ∷ 101 ∷ 115 ∷ 32 ∷ u) → comes_all_form s other ≡ other
unfolding comes_all_form form began bytes bad
comes-no-all s u other a0 =
    let a1 = at_next s 0 40 _ a0 in
    let a2 = at_next s 1 99 _ a1 in
    let a3 = at_next s 2 111 _ a2 in
    let a4 = at_next s 3 109 _ a3 in
    let a5 = at_next s 4 101 _ a4 in
    rw (then-reads s (reading 0 0 0 0 0) _ bad 40 (99 ∷ 111 ∷ 109 ∷ 101 ∷ 115 ∷ 97 ∷ 108 ∷ 108 ∷ []) (takes-byte s 0 0 0 0 0 40 _ a0 refl refl)
    (then-reads s _ _ _ 99 _ (takes-byte s 1 0 0 0 0 99 _ a1 refl refl)
    (then-reads s _ _ _ 111 _ (takes-byte s 2 0 0 0 0 111 _ a2 refl refl)
    (then-reads s _ _ _ 109 _ (takes-byte s 3 0 0 0 0 109 _ a3 refl refl)
    (then-reads s _ _ _ 101 _ (takes-byte s 4 0 0 0 0 101 _ a4 refl refl)
    (then-reads s _ _ _ 115 _ (takes-byte s 5 0 0 0 0 115 _ a5 refl refl)
    (then-bad s (reading 6 0 0 0 0) 97 (108 ∷ 108 ∷ []) (other_byte s 6 0 0 0 0 32 97 u (at_next s 5 115 _ a5) refl refl refl)))))))) refl

pub comes_back : (e q : ℕ) → is_number e ≡ true → is_number q ≡ true → reading_of (bytes "(comes " ++ (digits_of e ++ (32 ∷ (digits_of q ++ (41 ∷ 10 ∷ []))))) ≡ Asks (Comes e q)
unfolding comes_form ranged bytes
comes_back e q he hq =
    let s = bytes "(comes " ++ (digits_of e ++ (32 ∷ (digits_of q ++ (41 ∷ 10 ∷ [])))) in
    let f = comes-read s e q (number_fits e he) (number_fits q hq) (at-start s) in
    let z = f.1.size in
    let de = digits-short e in
    let dq = digits-short q in
    short s (omega arith) ∙ uncalled-no-ask s _ _ (at-start s) ∙ comes-no-all s _ _ (at-start s) ∙ (rw (f.0, ends s _ 0 0 e q f.1, he, hq) refl)

-- ---- chain
chain-read : (s : List ℕ) (e : ℕ) → e ≤ greatest_number → At s 0 (bytes "(chain " ++ (digits_of e ++ (41 ∷ 10 ∷ [])))
    → (form s 0 "(chain #)\n" ≡ reading (7 + length (digits_of e) + 1 + 1) 0 0 0 e) × At s (7 + length (digits_of e) + 1 + 1) []
unfolding form began bytes is_digit between
chain-read s e he a0 =
    let a1 = at_next s 0 40 _ a0 in
    let a2 = at_next s 1 99 _ a1 in
    let a3 = at_next s 2 104 _ a2 in
    let a4 = at_next s 3 97 _ a3 in
    let a5 = at_next s 4 105 _ a4 in
    let a6 = at_next s 5 110 _ a5 in
    let a7 = at_next s 6 32 _ a6 in
    let a8 = at-skip s 7 (digits_of e) _ a7 in
    let a9 = at_next s _ 41 _ a8 in (
      then-reads s _ _ _ 40 _ (takes-byte s 0 0 0 0 0 40 _ a0 refl refl)
          (then-reads s _ _ _ 99 _ (takes-byte s 1 0 0 0 0 99 _ a1 refl refl)
          (then-reads s _ _ _ 104 _ (takes-byte s 2 0 0 0 0 104 _ a2 refl refl)
          (then-reads s _ _ _ 97 _ (takes-byte s 3 0 0 0 0 97 _ a3 refl refl)
          (then-reads s _ _ _ 105 _ (takes-byte s 4 0 0 0 0 105 _ a4 refl refl)
          (then-reads s _ _ _ 110 _ (takes-byte s 5 0 0 0 0 110 _ a5 refl refl)
          (then-reads s _ _ _ 32 _ (takes-byte s 6 0 0 0 0 32 _ a6 refl refl)
          (then-reads s _ _ _ 35 _ (takes-number s 7 0 0 0 0 e _ a7 he refl)
          (then-reads s _ _ _ 41 _ (takes-byte s _ 0 0 0 e 41 _ a8 refl refl)
          (then-reads s _ _ _ 10 _ (takes-byte s _ 0 0 0 e 10 _ a9 refl refl) (reads_all s _)))))))))),
      at_next s _ 10 _ a9,
    )

-- a line that begins as a chain is no form whose third byte is an o
chain-only : (s u ps : List ℕ) → At s 0 (40 ∷ 99 ∷ 104 ∷ u) → pieces s (reading 0 0 0 0 0) (40 ∷ 99 ∷ 111 ∷ ps) ≡ bad
chain-only s u ps a0 =
    let a1 = at_next s 0 40 _ a0 in
    then-reads s (reading 0 0 0 0 0) _ bad 40 (99 ∷ 111 ∷ ps) (takes-byte s 0 0 0 0 0 40 _ a0 refl refl)
    (then-reads s _ _ _ 99 _ (takes-byte s 1 0 0 0 0 99 _ a1 refl refl)
    (then-bad s (reading 2 0 0 0 0) 111 ps (other_byte s 2 0 0 0 0 104 111 u (at_next s 1 99 _ a1) refl refl refl)))

chain-no-all : (s u : List ℕ) (other : Reading) → At s 0 (40 ∷ 99 ∷ 104 ∷ u) → comes_all_form s other ≡ other
unfolding comes_all_form form began bytes bad
chain-no-all s u other a0 = rw (chain-only s u (109 ∷ 101 ∷ 115 ∷ 97 ∷ 108 ∷ 108 ∷ []) a0) refl

chain-no-comes : (s u : List ℕ) (other : Reading) → At s 0 (40 ∷ 99 ∷ 104 ∷ u) → comes_form s other ≡ other
unfolding comes_form whole form began bytes bad
chain-no-comes s u other a0 = rw (chain-only s u (109 ∷ 101 ∷ 115 ∷ 32 ∷ 35 ∷ 32 ∷ 35 ∷ 41 ∷ 10 ∷ []) a0) refl

pub chain_back : (e : ℕ) → is_number e ≡ true → reading_of (bytes "(chain " ++ (digits_of e ++ (41 ∷ 10 ∷ []))) ≡ Asks (Chain e)
unfolding chain_form ranged bytes
chain_back e he =
    let s = bytes "(chain " ++ (digits_of e ++ (41 ∷ 10 ∷ [])) in
    let a = at-start s in
    let f = chain-read s e (number_fits e he) a in
    let z = f.1.size in
    let de = digits-short e in
    short s (omega arith) ∙ uncalled-no-ask s _ _ a ∙ chain-no-all s _ _ a ∙ chain-no-comes s _ _ a ∙ uncalled-no-simple s _ _ a ∙ uncalled-no-answer s _ _ a
    ∙ (rw (f.0, ends s _ 0 0 0 e f.1, he) refl)

-- ---- comesall
pair_fits : (x : Group) → pair_ranged x ≡ true → group_fits x ≡ true
unfolding pair_ranged group_fits
pair_fits x e =
    and_i (leb x.first greatest_number) (leb x.second greatest_number)
    (le-leb x.first greatest_number (number_fits x.first (and_l (is_number x.first) (is_number x.second) e)))
    (le-leb x.second greatest_number (number_fits x.second (and_r (is_number x.first) (is_number x.second) e)))

comes-all-read : (s u : List ℕ) → At s 0 (bytes "(comesall" ++ u) → (form s 0 "(comesall" ≡ reading 9 0 0 0 0) × At s 9 u
unfolding form began bytes
comes-all-read s u a0 =
    let a1 = at_next s 0 40 _ a0 in
    let a2 = at_next s 1 99 _ a1 in
    let a3 = at_next s 2 111 _ a2 in
    let a4 = at_next s 3 109 _ a3 in
    let a5 = at_next s 4 101 _ a4 in
    let a6 = at_next s 5 115 _ a5 in
    let a7 = at_next s 6 97 _ a6 in
    let a8 = at_next s 7 108 _ a7 in (
      then-reads s _ _ _ 40 _ (takes-byte s 0 0 0 0 0 40 _ a0 refl refl)
          (then-reads s _ _ _ 99 _ (takes-byte s 1 0 0 0 0 99 _ a1 refl refl)
          (then-reads s _ _ _ 111 _ (takes-byte s 2 0 0 0 0 111 _ a2 refl refl)
          (then-reads s _ _ _ 109 _ (takes-byte s 3 0 0 0 0 109 _ a3 refl refl)
          (then-reads s _ _ _ 101 _ (takes-byte s 4 0 0 0 0 101 _ a4 refl refl)
          (then-reads s _ _ _ 115 _ (takes-byte s 5 0 0 0 0 115 _ a5 refl refl)
          (then-reads s _ _ _ 97 _ (takes-byte s 6 0 0 0 0 97 _ a6 refl refl)
          (then-reads s _ _ _ 108 _ (takes-byte s 7 0 0 0 0 108 _ a7 refl refl)
          (then-reads s _ _ _ 108 _ (takes-byte s 8 0 0 0 0 108 _ a8 refl refl) (reads_all s _))))))))),
      at_next s 8 108 _ a8,
    )

pairs-asked : (xs : List Group) → eqb (length xs) 0 ≡ false → all pair_ranged xs ≡ true → length xs ≤ most_pairs → judged_pairs xs ≡ Asks (comes_all xs)
unfolding judged_pairs
pairs-asked xs some r h = rw (some, r, le-ltb most_pairs (length xs) h) refl

pub comes-all-back : (s : List ℕ) (xs : List Group) → eqb (length xs) 0 ≡ false → all pair_ranged xs ≡ true → length xs ≤ most_pairs → length s ≤ 256
    → At s 0 (bytes "(comesall" ++ (groups_text xs ++ (41 ∷ 10 ∷ []))) → reading_of s ≡ Asks (comes_all xs)
unfolding comes_all_form most_groups most_pairs bytes
comes-all-back s xs some r h few a0 =
    let f = comes-all-read s _ a0 in
    let g = gather-groups s 64 xs 9 (omega arith) (all-mono pair_ranged group_fits pair_fits xs r) f.1 in
    short s few ∙ uncalled-no-ask s _ _ a0
    ∙ (rw (f.0, last-bracket s (gathered 64 s 9).next g.there, g.groups) (pairs-asked xs some r h))

few-pairs : (es qs : List ℕ) → length (paired es qs) ≤ length es
unfolding paired
few-pairs [] qs = omega arith
few-pairs (e ∷ es) [] = omega arith
few-pairs (e ∷ es) (q ∷ qs) = pick (some e) (few-pairs es qs)
  where
    pick : (b : Bool) → length (paired es qs) ≤ length es → length (cond b (record { first = e; second = q } ∷ paired es qs) (paired es qs)) ≤ suc (length es)
    pick true h = omega arith
    pick false h = omega arith

pub pairs-few : (es qs : Sixteen) → length (pairs_of es qs) ≤ most_pairs
unfolding pairs_of all_of numbers_of most_pairs
pairs-few es qs = few-pairs (all_of es) (all_of qs)
