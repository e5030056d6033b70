-- A call whose numbers are in range, written as a line, reads back as itself.
use Prim.Native.Nat.{ℕ, ◌+◌, ◌^◌, ◌≤◌, ◌<◌}
use native.Mathlib.Omega.{arith}
use mathlib.Core.Path.{◌≡◌, refl, ap, subst, ◌∙◌}
use mathlib.Core.Bool.{true, false, ◌&&◌}
use mathlib.Core.List.{List, [], ◌∷◌, ◌++◌, map}
use lib.Dec.{leb, eqb}
use lib.ListN.{length, get_or, length-append, length-map}
use borrow.Author.Tests.{leb-true, le-leb, le-ltb, ne_eqb}
use Rattle.rows.specs.Lists.{bytes, between, all, some, distinct}
use Rattle.rows.specs.Limits.{greatest_number, processes, most_bytes, most_items, all_rights}
use Rattle.rows.proofs.Bools.{and_l, and_r, and_i, clash}
use Rattle.calls.specs.declared.Item.{Item}
use Rattle.calls.specs.declared.Call.{Call}
use Rattle.calls.specs.declared.Call.TheVariants.{Go, Hold, Register, Drop, Port, Close, Ask, Fetch, Revoke, Comes, Chain, ComesAll}
use Rattle.calls.specs.Loans.{items_of}
use Rattle.changes.proofs.Removed.{length-filter}
use Rattle.text.specs.declared.Reading.{Reading}
use Rattle.text.specs.declared.Reading.TheVariants.{Asks}
use Rattle.text.specs.Patterns.{is_digit, is_letter, spelt, bad, began, form, whole, word_from, word_of, most_groups}
use Rattle.text.specs.CallLines.{is_process, is_number, ranged, simple, simple_form, answer_form, chain_form, comes_form, Group, gathered, comes_all_form, item_of, item_ranged, packed, judged, ask_form, reading_of}
use Rattle.text.specs.Answers.{decimal, digits_of}
use Rattle.text.proofs.Answers.{leads-decimal, digits-short}
use Rattle.text.proofs.GroupHeads.{not-comesall}
use Rattle.text.proofs.UncalledBack.{short, number_fits, comes_back, chain_back, comes-all-back, pairs-few}
use Rattle.text.proofs.GroupsBack.{group_fits, groups-lead, groups-short, gather-groups, last-bracket}
use Rattle.text.specs.ReadBack.{simple_text, item_group, groups_text, ask_text, last_of, answer_text, comes_text, chain_text, pairs_of, comes_all_text, call_text, InRange}
use Rattle.text.proofs.Cursor.{At, at-start, at-skip, at_next, at_first, reading, takes-byte, other_byte, takes-number, takes-word, then-reads, reads_all, then-bad, ends}

-- ---- numbers as text
-- it begins with a digit
record Begins (u : List ℕ) : Type 0 where
  first : ℕ
  others : List ℕ
  is : u ≡ first ∷ others
  digit : first ≤ 57

begins : (u : List ℕ) → is_digit (get_or u 0 0) ≡ true → Begins u
unfolding is_digit between
begins [] e = clash e refl
begins (b ∷ u) e = record { first = b; others = u; is = refl; digit = leb-true b 57 (and_r (leb 48 b) (leb b 57) e) }

digits-begin : (n : ℕ) (u : List ℕ) → n ≤ greatest_number → Begins (digits_of n ++ u)
unfolding digits_of greatest_number
digits-begin n u h = let lt : n < 10 ^ 10 = omega arith in begins (decimal 10 n ++ u) (leads-decimal 9 n u lt).digit

-- a line that begins with a number is no `comesall` and no `comes`
no-comes-all : (s : List ℕ) (p : ℕ) (u : List ℕ) (other : Reading) → At s 0 (40 ∷ (digits_of p ++ u)) → p ≤ greatest_number → comes_all_form s other ≡ other
unfolding comes_all_form
no-comes-all s p u other a h =
    let d = digits-begin p u h in
    let at : At s 1 (d.first ∷ d.others) = subst (λ (l : List ℕ). At s 1 l) d.is (at_next s 0 40 (digits_of p ++ u) a) in
    rw (not-comesall s (ap (λ (b : ℕ). eqb b 99) (at_first s 1 (d.first ∷ d.others) at) ∙ ne_eqb d.first 99 (λ e. omega (arith, d.digit)))) refl

no-comes : (s : List ℕ) (p : ℕ) (u : List ℕ) (other : Reading) → At s 0 (40 ∷ (digits_of p ++ u)) → p ≤ greatest_number → comes_form s other ≡ other
unfolding comes_form whole form began bytes bad
no-comes s p u other a h =
    let d = digits-begin p u h in
    let at : At s 1 (d.first ∷ d.others) = subst (λ (l : List ℕ). At s 1 l) d.is (at_next s 0 40 (digits_of p ++ u) a) in
    let low = d.digit in
    rw (then-reads s (reading 0 0 0 0 0) (reading 1 0 0 0 0) bad 40 (99 ∷ 111 ∷ 109 ∷ 101 ∷ 115 ∷ 32 ∷ 35 ∷ 32 ∷ 35 ∷ 41 ∷ 10 ∷ [])
    (takes-byte s 0 0 0 0 0 40 (digits_of p ++ u) a refl refl)
    (then-bad s (reading 1 0 0 0 0) 99 (111 ∷ 109 ∷ 101 ∷ 115 ∷ 32 ∷ 35 ∷ 32 ∷ 35 ∷ 41 ∷ 10 ∷ []) (other_byte s 1 0 0 0 0 d.first 99 d.others at (ne_eqb d.first 99 (λ e. omega arith)) refl refl))) refl

-- ---- calls of one number
module _ (s : List ℕ) (p n b : ℕ) (ws : List ℕ) (l : all is_letter (b ∷ ws) ≡ true) (hp : p ≤ greatest_number) (hn : n ≤ greatest_number)
    (a0 : At s 0 (40 ∷ (digits_of p ++ (32 ∷ ((b ∷ ws) ++ (32 ∷ (digits_of n ++ (41 ∷ 10 ∷ [])))))))) where
  a1 : At s 1 (digits_of p ++ (32 ∷ ((b ∷ ws) ++ (32 ∷ (digits_of n ++ (41 ∷ 10 ∷ []))))))
  a1 = at_next s 0 40 _ a0

  a2 : At s (1 + length (digits_of p)) (32 ∷ ((b ∷ ws) ++ (32 ∷ (digits_of n ++ (41 ∷ 10 ∷ [])))))
  a2 = at-skip s 1 (digits_of p) _ a1

  a3 : At s (1 + length (digits_of p) + 1) ((b ∷ ws) ++ (32 ∷ (digits_of n ++ (41 ∷ 10 ∷ []))))
  a3 = at_next s (1 + length (digits_of p)) 32 _ a2

  a4 : At s (1 + length (digits_of p) + 1 + length (b ∷ ws)) (32 ∷ (digits_of n ++ (41 ∷ 10 ∷ [])))
  a4 = at-skip s (1 + length (digits_of p) + 1) (b ∷ ws) _ a3

  a5 : At s (1 + length (digits_of p) + 1 + length (b ∷ ws) + 1) (digits_of n ++ (41 ∷ 10 ∷ []))
  a5 = at_next s (1 + length (digits_of p) + 1 + length (b ∷ ws)) 32 _ a4

  a6 : At s (1 + length (digits_of p) + 1 + length (b ∷ ws) + 1 + length (digits_of n)) (41 ∷ 10 ∷ [])
  a6 = at-skip s (1 + length (digits_of p) + 1 + length (b ∷ ws) + 1) (digits_of n) _ a5

  a7 : At s (1 + length (digits_of p) + 1 + length (b ∷ ws) + 1 + length (digits_of n) + 1) (10 ∷ [])
  a7 = at_next s _ 41 _ a6

  a8 : At s (1 + length (digits_of p) + 1 + length (b ∷ ws) + 1 + length (digits_of n) + 1 + 1) []
  a8 = at_next s _ 10 _ a7

  simple-read : form s 0 "(# @ #)\n" ≡ reading (1 + length (digits_of p) + 1 + length (b ∷ ws) + 1 + length (digits_of n) + 1 + 1) (word_from 0 (b ∷ ws)) 0 p n
  unfolding form began bytes is_digit is_letter between
  simple-read =
      let w = word_from 0 (b ∷ ws) in
      then-reads s _ _ _ 40 _ (takes-byte s 0 0 0 0 0 40 _ a0 refl refl)
      (then-reads s _ _ _ 35 _ (takes-number s 1 0 0 0 0 p _ a1 hp refl)
      (then-reads s _ _ _ 32 _ (takes-byte s _ 0 0 0 p 32 _ a2 refl refl)
      (then-reads s _ _ _ 64 _ (takes-word s _ 0 0 0 p b ws _ a3 l refl)
      (then-reads s _ _ _ 32 _ (takes-byte s _ w 0 0 p 32 _ a4 refl refl)
      (then-reads s _ _ _ 35 _ (takes-number s _ w 0 0 p n _ a5 hn refl)
      (then-reads s _ _ _ 41 _ (takes-byte s _ w 0 p n 41 _ a6 refl refl)
      (then-reads s _ _ _ 10 _ (takes-byte s _ w 0 p n 10 _ a7 refl refl) (reads_all s _))))))))

  simple-form : (other : Reading) → simple_form s other ≡ simple (word_from 0 (b ∷ ws)) p n
  unfolding simple_form
  simple-form other = rw (simple-read, ends s _ (word_from 0 (b ∷ ws)) 0 p n a8) refl

  -- a word that does not begin with a is not ask
  no-ask : (other : Reading) → eqb b 97 ≡ false → ask_form s other ≡ other
  unfolding ask_form form began bytes bad is_digit between
  no-ask other d =
      rw (then-reads s (reading 0 0 0 0 0) _ bad 40 (35 ∷ 32 ∷ 97 ∷ 115 ∷ 107 ∷ 32 ∷ 35 ∷ []) (takes-byte s 0 0 0 0 0 40 _ a0 refl refl)
      (then-reads s _ _ _ 35 _ (takes-number s 1 0 0 0 0 p _ a1 hp refl)
      (then-reads s _ _ _ 32 _ (takes-byte s _ 0 0 0 p 32 _ a2 refl refl)
      (then-bad s _ 97 _ (other_byte s _ 0 0 0 p b 97 _ a3 d refl refl))))) refl

  simple-back : eqb b 97 ≡ false → length ws ≤ 8 → reading_of s ≡ simple (word_from 0 (b ∷ ws)) p n
  simple-back d few =
      let e = a8.size in
      let dp = digits-short p in
      let dn = digits-short n in
      short s (omega arith) ∙ no-ask _ d ∙ no-comes-all s p _ _ a0 hp ∙ no-comes s p _ _ a0 hp ∙ simple-form (answer_form s (chain_form s))

-- ---- answer
module _ (s : List ℕ) (p v x : ℕ) (hp : p ≤ greatest_number) (hv : v ≤ greatest_number) (hx : x ≤ greatest_number)
    (a0 : At s 0 (40 ∷ (digits_of p ++ (32 ∷ (97 ∷ 110 ∷ 115 ∷ 119 ∷ 101 ∷ 114 ∷ (32 ∷ (digits_of v ++ (32 ∷ (digits_of x ++ (41 ∷ 10 ∷ [])))))))))) where
  b1 : At s 1 (digits_of p ++ (32 ∷ (97 ∷ 110 ∷ 115 ∷ 119 ∷ 101 ∷ 114 ∷ (32 ∷ (digits_of v ++ (32 ∷ (digits_of x ++ (41 ∷ 10 ∷ []))))))))
  b1 = at_next s 0 40 _ a0

  b2 : At s (1 + length (digits_of p)) (32 ∷ (97 ∷ 110 ∷ 115 ∷ 119 ∷ 101 ∷ 114 ∷ (32 ∷ (digits_of v ++ (32 ∷ (digits_of x ++ (41 ∷ 10 ∷ [])))))))
  b2 = at-skip s 1 (digits_of p) _ b1

  b3 : At s (1 + length (digits_of p) + 1) (97 ∷ 110 ∷ 115 ∷ 119 ∷ 101 ∷ 114 ∷ (32 ∷ (digits_of v ++ (32 ∷ (digits_of x ++ (41 ∷ 10 ∷ []))))))
  b3 = at_next s _ 32 _ b2

  b4 : At s (1 + length (digits_of p) + 1 + 6) (32 ∷ (digits_of v ++ (32 ∷ (digits_of x ++ (41 ∷ 10 ∷ [])))))
  b4 = at-skip s _ (97 ∷ 110 ∷ 115 ∷ 119 ∷ 101 ∷ 114 ∷ []) _ b3

  b5 : At s (1 + length (digits_of p) + 1 + 6 + 1) (digits_of v ++ (32 ∷ (digits_of x ++ (41 ∷ 10 ∷ []))))
  b5 = at_next s _ 32 _ b4

  b6 : At s (1 + length (digits_of p) + 1 + 6 + 1 + length (digits_of v)) (32 ∷ (digits_of x ++ (41 ∷ 10 ∷ [])))
  b6 = at-skip s _ (digits_of v) _ b5

  -- its word is not ask: the second letter differs
  answer-no-ask : (other : Reading) → ask_form s other ≡ other
  unfolding ask_form form began bytes bad is_digit between
  answer-no-ask other =
      rw (then-reads s (reading 0 0 0 0 0) _ bad 40 (35 ∷ 32 ∷ 97 ∷ 115 ∷ 107 ∷ 32 ∷ 35 ∷ []) (takes-byte s 0 0 0 0 0 40 _ a0 refl refl)
      (then-reads s _ _ _ 35 _ (takes-number s 1 0 0 0 0 p _ b1 hp refl)
      (then-reads s _ _ _ 32 _ (takes-byte s _ 0 0 0 p 32 _ b2 refl refl)
      (then-reads s _ _ _ 97 _ (takes-byte s _ 0 0 0 p 97 _ b3 refl refl)
      (then-bad s _ 115 _ (other_byte s _ 0 0 0 p 110 115 _ (at_next s _ 97 _ b3) refl refl refl)))))) refl

  -- it is no call of one number: a space follows the first
  answer-no-simple : (other : Reading) → simple_form s other ≡ other
  unfolding simple_form whole form began bytes bad is_digit is_letter between all
  answer-no-simple other =
      let w = word_from 0 (97 ∷ 110 ∷ 115 ∷ 119 ∷ 101 ∷ 114 ∷ []) in
      rw (then-reads s (reading 0 0 0 0 0) _ bad 40 (35 ∷ 32 ∷ 64 ∷ 32 ∷ 35 ∷ 41 ∷ 10 ∷ []) (takes-byte s 0 0 0 0 0 40 _ a0 refl refl)
      (then-reads s _ _ _ 35 _ (takes-number s 1 0 0 0 0 p _ b1 hp refl)
      (then-reads s _ _ _ 32 _ (takes-byte s _ 0 0 0 p 32 _ b2 refl refl)
      (then-reads s _ _ _ 64 _ (takes-word s _ 0 0 0 p 97 (110 ∷ 115 ∷ 119 ∷ 101 ∷ 114 ∷ []) _ b3 refl refl)
      (then-reads s _ _ _ 32 _ (takes-byte s _ w 0 0 p 32 _ b4 refl refl)
      (then-reads s _ _ _ 35 _ (takes-number s _ w 0 0 p v _ b5 hv refl)
      (then-bad s _ 41 _ (other_byte s _ w 0 p v 32 41 _ b6 refl refl refl)))))))) refl

  answer-read : (form s 0 "(# answer # #)\n" ≡ reading (1 + length (digits_of p) + 1 + 1 + 1 + 1 + 1 + 1 + 1 + 1 + length (digits_of v) + 1 + length (digits_of x) + 1 + 1) 0 p v x)
      × At s (1 + length (digits_of p) + 1 + 1 + 1 + 1 + 1 + 1 + 1 + 1 + length (digits_of v) + 1 + length (digits_of x) + 1 + 1) []
  unfolding form began bytes is_digit between
  answer-read =
      let c1 = at_next s _ 97 _ b3 in
      let c2 = at_next s _ 110 _ c1 in
      let c3 = at_next s _ 115 _ c2 in
      let c4 = at_next s _ 119 _ c3 in
      let c5 = at_next s _ 101 _ c4 in
      let c6 = at_next s _ 114 _ c5 in
      let c7 = at_next s _ 32 _ c6 in
      let c8 = at-skip s _ (digits_of v) _ c7 in
      let c9 = at_next s _ 32 _ c8 in
      let d1 = at-skip s _ (digits_of x) _ c9 in
      let d2 = at_next s _ 41 _ d1 in (
        then-reads s _ _ _ 40 _ (takes-byte s 0 0 0 0 0 40 _ a0 refl refl)
            (then-reads s _ _ _ 35 _ (takes-number s 1 0 0 0 0 p _ b1 hp refl)
            (then-reads s _ _ _ 32 _ (takes-byte s _ 0 0 0 p 32 _ b2 refl refl)
            (then-reads s _ _ _ 97 _ (takes-byte s _ 0 0 0 p 97 _ b3 refl refl)
            (then-reads s _ _ _ 110 _ (takes-byte s _ 0 0 0 p 110 _ c1 refl refl)
            (then-reads s _ _ _ 115 _ (takes-byte s _ 0 0 0 p 115 _ c2 refl refl)
            (then-reads s _ _ _ 119 _ (takes-byte s _ 0 0 0 p 119 _ c3 refl refl)
            (then-reads s _ _ _ 101 _ (takes-byte s _ 0 0 0 p 101 _ c4 refl refl)
            (then-reads s _ _ _ 114 _ (takes-byte s _ 0 0 0 p 114 _ c5 refl refl)
            (then-reads s _ _ _ 32 _ (takes-byte s _ 0 0 0 p 32 _ c6 refl refl)
            (then-reads s _ _ _ 35 _ (takes-number s _ 0 0 0 p v _ c7 hv refl)
            (then-reads s _ _ _ 32 _ (takes-byte s _ 0 0 p v 32 _ c8 refl refl)
            (then-reads s _ _ _ 35 _ (takes-number s _ 0 0 p v x _ c9 hx refl)
            (then-reads s _ _ _ 41 _ (takes-byte s _ 0 p v x 41 _ d1 refl refl)
            (then-reads s _ _ _ 10 _ (takes-byte s _ 0 p v x 10 _ d2 refl refl) (reads_all s _))))))))))))))),
        at_next s _ 10 _ d2,
      )

  answer_back : is_process p ≡ true → is_number v ≡ true → leb x 1 ≡ true → reading_of s ≡ Asks (Call.Answer p v (eqb x 1))
  unfolding answer_form ranged
  answer_back cp cv cx =
      let (read, there) = answer-read in
      let z = there.size in
      let dp = digits-short p in
      let dv = digits-short v in
      let dx = digits-short x in
      short s (omega arith) ∙ answer-no-ask _ ∙ no-comes-all s p _ _ a0 hp ∙ no-comes s p _ _ a0 hp ∙ answer-no-simple _
      ∙ rw (read, ends s _ 0 p v x there, cp, cv, cx) refl

-- ---- ask
ask-read : (s : List ℕ) (p c : ℕ) (xs : List Group) → p ≤ greatest_number → c ≤ greatest_number
    → At s 0 (40 ∷ (digits_of p ++ (32 ∷ 97 ∷ 115 ∷ 107 ∷ 32 ∷ (digits_of c ++ (groups_text xs ++ (41 ∷ 10 ∷ []))))))
    → (form s 0 "(# ask #" ≡ reading (1 + length (digits_of p) + 1 + 1 + 1 + 1 + 1 + length (digits_of c)) 0 0 p c)
    × At s (1 + length (digits_of p) + 1 + 1 + 1 + 1 + 1 + length (digits_of c)) (groups_text xs ++ (41 ∷ 10 ∷ []))
unfolding form began bytes is_digit between
ask-read s p c xs hp hc a0 =
    let a1 = at_next s 0 40 _ a0 in
    let a2 = at-skip s 1 (digits_of p) _ a1 in
    let a3 = at_next s _ 32 _ a2 in
    let a4 = at_next s _ 97 _ a3 in
    let a5 = at_next s _ 115 _ a4 in
    let a6 = at_next s _ 107 _ a5 in
    let a7 = at_next s _ 32 _ a6 in (
      then-reads s _ _ _ 40 _ (takes-byte s 0 0 0 0 0 40 _ a0 refl refl)
          (then-reads s _ _ _ 35 _ (takes-number s 1 0 0 0 0 p _ a1 hp refl)
          (then-reads s _ _ _ 32 _ (takes-byte s _ 0 0 0 p 32 _ a2 refl refl)
          (then-reads s _ _ _ 97 _ (takes-byte s _ 0 0 0 p 97 _ a3 refl refl)
          (then-reads s _ _ _ 115 _ (takes-byte s _ 0 0 0 p 115 _ a4 refl refl)
          (then-reads s _ _ _ 107 _ (takes-byte s _ 0 0 0 p 107 _ a5 refl refl)
          (then-reads s _ _ _ 32 _ (takes-byte s _ 0 0 0 p 32 _ a6 refl refl)
          (then-reads s _ _ _ 35 _ (takes-number s _ 0 0 0 p c _ a7 hc (groups-lead xs)) (reads_all s _)))))))),
      at-skip s _ (digits_of c) _ a7,
    )

process-fits : (p : ℕ) → is_process p ≡ true → p ≤ greatest_number
unfolding is_process between processes greatest_number
process-fits p e = let h = leb-true p 64 (and_r (leb 1 p) (leb p 64) e) in omega arith

judged-asks : (p c : ℕ) (is : List Item) → is_process p ≡ true → is_number c ≡ true → all item_ranged is ≡ true → distinct (map (λ i. i.row) is) ≡ true → length is ≤ most_items
    → judged p c is ≡ Asks (Ask p c (packed is))
unfolding judged
judged-asks p c is hp hc r d h = rw (hp, hc, r, d, le-ltb most_items (length is) h) refl

-- the groups of items, and the items of groups
item-fits : (i : Item) → item_ranged i ≡ true → group_fits (item_group i) ≡ true
unfolding item_ranged item_group group_fits all_rights greatest_number
item-fits i e =
    let row = number_fits i.row (and_l (is_number i.row) (leb i.rights 7) e) in
    let rights = leb-true i.rights 7 (and_r (is_number i.row) (leb i.rights 7) e) in
    and_i (leb i.row greatest_number) (leb i.rights greatest_number) (le-leb i.row greatest_number row) (le-leb i.rights greatest_number (omega arith))

items-fit : (is : List Item) → all item_ranged is ≡ true → all group_fits (map item_group is) ≡ true
unfolding all
items-fit [] e = refl
items-fit (i ∷ is) e =
    and_i (group_fits (item_group i)) (all group_fits (map item_group is)) (item-fits i (and_l (item_ranged i) (all item_ranged is) e)) (items-fit is (and_r (item_ranged i) (all item_ranged is) e))

items-groups : (is : List Item) → map item_of (map item_group is) ≡ is
unfolding item_of item_group
items-groups [] = refl
items-groups (i ∷ is) = ap (λ (js : List Item). i ∷ js) (items-groups is)

ask-back : (s : List ℕ) (p c : ℕ) (is : List Item) → is_process p ≡ true → is_number c ≡ true → all item_ranged is ≡ true → distinct (map (λ i. i.row) is) ≡ true → length is ≤ 4
    → At s 0 (40 ∷ (digits_of p ++ (32 ∷ 97 ∷ 115 ∷ 107 ∷ 32 ∷ (digits_of c ++ (groups_text (map item_group is) ++ (41 ∷ 10 ∷ [])))))) → reading_of s ≡ Asks (Ask p c (packed is))
unfolding ask_form most_groups most_items
ask-back s p c is hp hc r d h a0 =
    let xs : List Group = map item_group is in
    let n : length xs ≡ length is = length-map is item_group in
    let f = ask-read s p c xs (process-fits p hp) (number_fits c hc) a0 in
    let j = 1 + length (digits_of p) + 1 + 1 + 1 + 1 + 1 + length (digits_of c) in
    let g = gather-groups s 64 xs j (omega arith) (items-fit is r) f.1 in
    let dp = digits-short p in
    let dc = digits-short c in
    let di = groups-short xs in
    let la = length-append (groups_text xs) (41 ∷ 10 ∷ []) in
    let e = f.1.size in
    short s (omega arith)
    ∙ (rw (f.0, last-bracket s (gathered 64 s j).next g.there, g.groups, items-groups is) (judged-asks p c is hp hc r d h))

-- ---- every call
-- a call of one number, by the letters of its word
one_number : (p n b : ℕ) (ws : List ℕ) → all is_letter (b ∷ ws) ≡ true → eqb b 97 ≡ false → length ws ≤ 8 → is_process p ≡ true → n ≤ greatest_number
    → (r : Reading) → simple (word_from 0 (b ∷ ws)) p n ≡ r → reading_of (40 ∷ (digits_of p ++ (32 ∷ ((b ∷ ws) ++ (32 ∷ (digits_of n ++ (41 ∷ 10 ∷ []))))))) ≡ r
one_number p n b ws l d few hp hn r e =
    let s : List ℕ = 40 ∷ (digits_of p ++ (32 ∷ ((b ∷ ws) ++ (32 ∷ (digits_of n ++ (41 ∷ 10 ∷ [])))))) in
    simple-back s p n b ws l (process-fits p hp) hn (at-start s) d few ∙ e

-- with a number above 0
pub named : (p e : ℕ) → is_process p && is_number e ≡ true → (b : ℕ) (ws : List ℕ) → all is_letter (b ∷ ws) ≡ true → eqb b 97 ≡ false → length ws ≤ 8
    → (r : Reading) → simple (word_from 0 (b ∷ ws)) p e ≡ r → reading_of (40 ∷ (digits_of p ++ (32 ∷ ((b ∷ ws) ++ (32 ∷ (digits_of e ++ (41 ∷ 10 ∷ []))))))) ≡ r
named p e h b ws l d few r q = one_number p e b ws l d few (and_l (is_process p) (is_number e) h) (number_fits e (and_r (is_process p) (is_number e) h)) r q

-- an answer, by its last number
answered : (p e x : ℕ) → is_process p && is_number e ≡ true → x ≤ 1
    → reading_of (40 ∷ (digits_of p ++ (32 ∷ (97 ∷ 110 ∷ 115 ∷ 119 ∷ 101 ∷ 114 ∷ (32 ∷ (digits_of e ++ (32 ∷ (digits_of x ++ (41 ∷ 10 ∷ []))))))))) ≡ Asks (Call.Answer p e (eqb x 1))
unfolding greatest_number
answered p e x h few =
    let hp = and_l (is_process p) (is_number e) h in
    let he = and_r (is_process p) (is_number e) h in
    answer_back _ p e x (process-fits p hp) (number_fits e he) (omega arith) (at-start _) hp he (le-leb x 1 few)

few-items : (is : List Item) → packed (items_of is) ≡ is → length (items_of is) ≤ 4
unfolding items_of packed
few-items is first = omega (arith, length-filter (λ i. some i.row) is, ap length first)

pub call-read : (c : Call) → InRange c → reading_of (call_text c) ≡ Asks c
unfolding InRange call_text simple_text ask_text answer_text last_of comes_text chain_text comes_all_text simple ranged bytes word_of word_from spelt all is_letter between most_bytes
call-read (Go p e) h =
    one_number p e 103 (111 ∷ []) refl refl (omega arith) (and_l (is_process p) (leb e greatest_number) h) (leb-true e greatest_number (and_r (is_process p) (leb e greatest_number) h)) (Asks (Go p e)) (rw h refl)
call-read (Hold p e) h = named p e h 104 (111 ∷ 108 ∷ 100 ∷ []) refl refl (omega arith) (Asks (Hold p e)) (rw h refl)
call-read (Register p e) h = named p e h 114 (101 ∷ 103 ∷ 105 ∷ 115 ∷ 116 ∷ 101 ∷ 114 ∷ []) refl refl (omega arith) (Asks (Register p e)) (rw h refl)
call-read (Drop p e) h = named p e h 100 (114 ∷ 111 ∷ 112 ∷ []) refl refl (omega arith) (Asks (Drop p e)) (rw h refl)
call-read (Port p e) h = named p e h 112 (111 ∷ 114 ∷ 116 ∷ []) refl refl (omega arith) (Asks (Port p e)) (rw h refl)
call-read (Close p e) h = named p e h 99 (108 ∷ 111 ∷ 115 ∷ 101 ∷ []) refl refl (omega arith) (Asks (Close p e)) (rw h refl)
call-read (Ask p c is) h = ask-back _ p c (items_of is) h.caller h.port h.items h.apart (few-items is h.first) (at-start _) ∙ ap (λ (x : List Item). Asks (Ask p c x)) h.first
call-read (Fetch p e) h = named p e h 102 (101 ∷ 116 ∷ 99 ∷ 104 ∷ []) refl refl (omega arith) (Asks (Fetch p e)) (rw h refl)
call-read (Call.Answer p e true) h = answered p e 1 h (omega arith)
call-read (Call.Answer p e false) h = answered p e 0 h (omega arith)
call-read (Revoke p e) h = named p e h 114 (101 ∷ 118 ∷ 111 ∷ 107 ∷ 101 ∷ []) refl refl (omega arith) (Asks (Revoke p e)) (rw h refl)
call-read (Comes e q) h = comes_back e q (and_l (is_number e) (is_number q) h) (and_r (is_number e) (is_number q) h)
call-read (Chain e) h = chain_back e h
call-read (ComesAll es qs) h = comes-all-back _ (pairs_of es qs) h.there h.pairs (pairs-few es qs) h.short (at-start _) ∙ ap Asks h.first
