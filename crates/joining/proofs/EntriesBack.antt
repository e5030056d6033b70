-- Entries of the right shape and in range, written one after the other, read back as themselves, and are short.
use Prim.Native.Nat.{ℕ, zero, suc, ◌*◌, ◌≤◌, ◌<◌}
use native.Mathlib.Omega.{arith}
use mathlib.Core.Bool.{Bool, true, false, cond, ◌&&◌, ◌||◌}
use mathlib.Core.List.{List, [], ◌∷◌, ◌++◌, append_assoc, append-nil}
use mathlib.Core.Path.{◌≡◌, refl, sym, ap, subst, ◌∙◌}
use lib.Dec.{eqb}
use lib.ListN.{length, length-append}
use borrow.Author.Tests.{eqb-true}
use Rattle.rows.specs.Lists.{bytes, between, all}
use Rattle.rows.specs.Limits.{greatest_number}
use Rattle.rows.specs.Codes.{operation, subdirectory, is_operation, is_subdirectory}
use Rattle.rows.proofs.Bools.{and_l, and_r}
use Rattle.calls.specs.Answers.{num}
use Rattle.text.specs.declared.Entry.{Entry}
use Rattle.std.specs.Prelude.{Option, Some, None}
use Rattle.text.specs.Patterns.{is_digit, bad, began, form}
use Rattle.text.specs.Opening.{Entries, operation_entry, subdirectory_entry, add_entry, entries_from, entry_ranged}
use Rattle.text.specs.Answers.{digits_of, value_text, spaced}
use Rattle.text.specs.vocabulary.Openings.{entry_read}
use Rattle.text.proofs.OpeningForms.{entry_shaped}
use Rattle.text.proofs.OpeningLaws.{from_more, from-none}
use Rattle.text.proofs.Cursor.{At, at-skip, at_next, reading, takes-byte, other_byte, takes-number, then-reads, reads_all, then-bad}
use Rattle.joining.specs.Written.{operation_text, subdirectory_text, entry_text, entries_text}
use Rattle.joining.specs.vocabulary.Directories.{EntryFits}
use Rattle.joining.specs.vocabulary.Lines.{ENTRY}
use Rattle.joining.proofs.MergedNodes.{entry_good, good-fits}
use Rattle.joining.proofs.FormTexts.{digits-few}

-- ---- texts, byte by byte
pub value-then : (n : ℕ) (u : List ℕ) → spaced (num n ∷ []) ++ u ≡ 32 ∷ (digits_of n ++ u)
unfolding spaced value_text
value-then n u = ap (λ (l : List ℕ). 32 ∷ (l ++ u)) (append-nil (digits_of n))

pub two_then : (m n : ℕ) (u : List ℕ) → spaced (num m ∷ num n ∷ []) ++ u ≡ 32 ∷ (digits_of m ++ (32 ∷ (digits_of n ++ u)))
unfolding spaced value_text
two_then m n u =
    ap (λ (l : List ℕ). 32 ∷ l) (append_assoc (digits_of m) (32 ∷ (digits_of n ++ [])) u)
    ∙ ap (λ (l : List ℕ). 32 ∷ (digits_of m ++ (32 ∷ (l ++ u)))) (append-nil (digits_of n))

three-then : (m n k : ℕ) (u : List ℕ) → spaced (num m ∷ num n ∷ num k ∷ []) ++ u ≡ 32 ∷ (digits_of m ++ (32 ∷ (digits_of n ++ (32 ∷ (digits_of k ++ u)))))
unfolding spaced value_text
three-then m n k u =
    ap (λ (l : List ℕ). 32 ∷ l) (append_assoc (digits_of m) (32 ∷ (digits_of n ++ (32 ∷ (digits_of k ++ [])))) u
    ∙ ap (λ (l : List ℕ). digits_of m ++ (32 ∷ l)) (append_assoc (digits_of n) (32 ∷ (digits_of k ++ [])) u))
    ∙ ap (λ (l : List ℕ). 32 ∷ (digits_of m ++ (32 ∷ (digits_of n ++ (32 ∷ (l ++ u)))))) (append-nil (digits_of k))

pub operation-then : (e : Entry) (u : List ℕ) → operation_text e ++ u
    ≡ 32 ∷ 40 ∷ 111 ∷ 112 ∷ 32 ∷ (digits_of e.object ++ (32 ∷ (digits_of e.operation ++ (32 ∷ (digits_of e.rights ++ (41 ∷ u))))))
unfolding operation_text bytes
operation-then e u =
    ap (λ (l : List ℕ). 32 ∷ 40 ∷ 111 ∷ 112 ∷ l)
    (append_assoc (spaced (num e.object ∷ num e.operation ∷ num e.rights ∷ [])) (41 ∷ []) u ∙ three-then e.object e.operation e.rights (41 ∷ u))

pub subdirectory-then : (e : Entry) (u : List ℕ) → subdirectory_text e ++ u
    ≡ 32 ∷ 40 ∷ 100 ∷ 105 ∷ 114 ∷ 32 ∷ (digits_of e.object ++ (32 ∷ (digits_of e.rights ++ (41 ∷ u))))
unfolding subdirectory_text bytes
subdirectory-then e u =
    ap (λ (l : List ℕ). 32 ∷ 40 ∷ 100 ∷ 105 ∷ 114 ∷ l)
    (append_assoc (spaced (num e.object ∷ num e.rights ∷ [])) (41 ∷ []) u ∙ two_then e.object e.rights (41 ∷ u))

-- ---- one entry
-- it is read where its text stands, and the reader stands after it
record Reads (s : List ℕ) (e : Entry) (u : List ℕ) (x : Option (Entry × ℕ)) : Type 0 where
  read : Entry
  next : ℕ
  is : x ≡ Some (read, next)
  entry : read ≡ e
  there : At s next u

pub small : (n : ℕ) → n < 1000 → n ≤ greatest_number
unfolding greatest_number
small n h = omega arith

module _ (s : List ℕ) (j : ℕ) (e : Entry) (u : List ℕ) (fits : EntryFits e) where
  operation-read : e.kind ≡ operation
      → At s j (32 ∷ 40 ∷ 111 ∷ 112 ∷ 32 ∷ (digits_of e.object ++ (32 ∷ (digits_of e.operation ++ (32 ∷ (digits_of e.rights ++ (41 ∷ u)))))))
      → Reads s e u (entry_read s j)
  unfolding entry_read form began bytes is_digit between operation_entry operation
  operation-read k a0 =
      let (fo, fp, fr, fk) = fits in
      let a1 = at_next s j 32 _ a0 in
      let a2 = at_next s _ 40 _ a1 in
      let a3 = at_next s _ 111 _ a2 in
      let a4 = at_next s _ 112 _ a3 in
      let a5 = at_next s _ 32 _ a4 in
      let a6 = at-skip s _ (digits_of e.object) _ a5 in
      let a7 = at_next s _ 32 _ a6 in
      let a8 = at-skip s _ (digits_of e.operation) _ a7 in
      let a9 = at_next s _ 32 _ a8 in
      let b1 = at-skip s _ (digits_of e.rights) _ a9 in
      let o = e.object in
      let p = e.operation in
      let r = e.rights in
      rw (then-reads s (reading j 0 0 0 0) _ _ 32 (40 ∷ 111 ∷ 112 ∷ 32 ∷ 35 ∷ 32 ∷ 35 ∷ 32 ∷ 35 ∷ 41 ∷ []) (takes-byte s j 0 0 0 0 32 _ a0 refl refl)
      (then-reads s _ _ _ 40 _ (takes-byte s _ 0 0 0 0 40 _ a1 refl refl)
      (then-reads s _ _ _ 111 _ (takes-byte s _ 0 0 0 0 111 _ a2 refl refl)
      (then-reads s _ _ _ 112 _ (takes-byte s _ 0 0 0 0 112 _ a3 refl refl)
      (then-reads s _ _ _ 32 _ (takes-byte s _ 0 0 0 0 32 _ a4 refl refl)
      (then-reads s _ _ _ 35 _ (takes-number s _ 0 0 0 0 o _ a5 (small o (omega arith)) refl)
      (then-reads s _ _ _ 32 _ (takes-byte s _ 0 0 0 o 32 _ a6 refl refl)
      (then-reads s _ _ _ 35 _ (takes-number s _ 0 0 0 o p _ a7 (small p (omega arith)) refl)
      (then-reads s _ _ _ 32 _ (takes-byte s _ 0 0 o p 32 _ a8 refl refl)
      (then-reads s _ _ _ 35 _ (takes-number s _ 0 0 o p r _ a9 (small r (omega arith)) refl)
      (then-reads s _ _ _ 41 _ (takes-byte s _ 0 o p r 41 _ b1 refl refl) (reads_all s _))))))))))))
      (record { read = _; next = _; is = refl; entry = λ i. record { kind = sym k i; object = o; operation = p; rights = r }; there = at_next s _ 41 _ b1 })

  no-operation : (v : List ℕ) → At s j (32 ∷ 40 ∷ 100 ∷ v) → form s j " (op # # #)" ≡ bad
  unfolding form began bytes
  no-operation v a0 =
      let a1 = at_next s j 32 _ a0 in
      then-reads s (reading j 0 0 0 0) _ bad 32 (40 ∷ 111 ∷ 112 ∷ 32 ∷ 35 ∷ 32 ∷ 35 ∷ 32 ∷ 35 ∷ 41 ∷ []) (takes-byte s j 0 0 0 0 32 _ a0 refl refl)
      (then-reads s _ _ _ 40 _ (takes-byte s _ 0 0 0 0 40 _ a1 refl refl)
      (then-bad s _ 111 (112 ∷ 32 ∷ 35 ∷ 32 ∷ 35 ∷ 32 ∷ 35 ∷ 41 ∷ []) (other_byte s _ 0 0 0 0 100 111 v (at_next s _ 40 _ a1) refl refl refl)))

  subdirectory-read : e.kind ≡ subdirectory → e.operation ≡ 0
      → At s j (32 ∷ 40 ∷ 100 ∷ 105 ∷ 114 ∷ 32 ∷ (digits_of e.object ++ (32 ∷ (digits_of e.rights ++ (41 ∷ u)))))
      → Reads s e u (entry_read s j)
  unfolding entry_read form began bytes is_digit between subdirectory_entry subdirectory bad
  subdirectory-read k z a0 =
      let (fo, fp, fr, fk) = fits in
      let a1 = at_next s j 32 _ a0 in
      let a2 = at_next s _ 40 _ a1 in
      let a3 = at_next s _ 100 _ a2 in
      let a4 = at_next s _ 105 _ a3 in
      let a5 = at_next s _ 114 _ a4 in
      let a6 = at_next s _ 32 _ a5 in
      let a7 = at-skip s _ (digits_of e.object) _ a6 in
      let a8 = at_next s _ 32 _ a7 in
      let a9 = at-skip s _ (digits_of e.rights) _ a8 in
      let o = e.object in
      let r = e.rights in
      rw (
        no-operation _ a0,
        then-reads s (reading j 0 0 0 0) _ _ 32 (40 ∷ 100 ∷ 105 ∷ 114 ∷ 32 ∷ 35 ∷ 32 ∷ 35 ∷ 41 ∷ []) (takes-byte s j 0 0 0 0 32 _ a0 refl refl)
            (then-reads s _ _ _ 40 _ (takes-byte s _ 0 0 0 0 40 _ a1 refl refl)
            (then-reads s _ _ _ 100 _ (takes-byte s _ 0 0 0 0 100 _ a2 refl refl)
            (then-reads s _ _ _ 105 _ (takes-byte s _ 0 0 0 0 105 _ a3 refl refl)
            (then-reads s _ _ _ 114 _ (takes-byte s _ 0 0 0 0 114 _ a4 refl refl)
            (then-reads s _ _ _ 32 _ (takes-byte s _ 0 0 0 0 32 _ a5 refl refl)
            (then-reads s _ _ _ 35 _ (takes-number s _ 0 0 0 0 o _ a6 (small o (omega arith)) refl)
            (then-reads s _ _ _ 32 _ (takes-byte s _ 0 0 0 o 32 _ a7 refl refl)
            (then-reads s _ _ _ 35 _ (takes-number s _ 0 0 0 o r _ a8 (small r (omega arith)) refl)
            (then-reads s _ _ _ 41 _ (takes-byte s _ 0 0 o r 41 _ a9 refl refl) (reads_all s _)))))))))),
      )
      (record { read = _; next = _; is = refl; entry = λ i. record { kind = sym k i; object = o; operation = sym z i; rights = r }; there = at_next s _ 41 _ a9 })

-- ---- one entry of either kind
entry-read : (s : List ℕ) (j : ℕ) (e : Entry) (u : List ℕ) → entry_good e ≡ true → At s j (entry_text e ++ u) → Reads s e u (entry_read s j)
unfolding entry_text entry_good entry_shaped is_operation is_subdirectory
entry-read s j e u good a = pick (eqb e.kind operation) refl (and_r (entry_ranged e) (entry_shaped e) good) a
  where
    pick : (b : Bool) → eqb e.kind operation ≡ b → b || (eqb e.kind subdirectory && eqb e.operation 0) ≡ true → At s j (cond b (operation_text e) (subdirectory_text e) ++ u)
        → Reads s e u (entry_read s j)
    pick true q shaped a = operation-read s j e u (good-fits e good) (eqb-true e.kind operation q) (subst (At s j) (operation-then e u) a)
    pick false q shaped a =
        subdirectory-read s j e u (good-fits e good) (eqb-true e.kind subdirectory (and_l (eqb e.kind subdirectory) (eqb e.operation 0) shaped))
        (eqb-true e.operation 0 (and_r (eqb e.kind subdirectory) (eqb e.operation 0) shaped)) (subst (At s j) (subdirectory-then e u) a)

-- ---- all entries, and the bracket after them
no-entry : (s : List ℕ) (j : ℕ) (u : List ℕ) → At s j (41 ∷ u) → entry_read s j ≡ None
unfolding entry_read form began bytes bad
no-entry s j u a =
    rw (
      then-bad s (reading j 0 0 0 0) 32 (40 ∷ 111 ∷ 112 ∷ 32 ∷ 35 ∷ 32 ∷ 35 ∷ 32 ∷ 35 ∷ 41 ∷ []) (other_byte s j 0 0 0 0 41 32 u a refl refl refl),
      then-bad s (reading j 0 0 0 0) 32 (40 ∷ 100 ∷ 105 ∷ 114 ∷ 32 ∷ 35 ∷ 32 ∷ 35 ∷ 41 ∷ []) (other_byte s j 0 0 0 0 41 32 u a refl refl refl),
    ) refl

pub record ReadsAll (s : List ℕ) (es : List Entry) (u : List ℕ) (g : Entries) : Type 0 where
  pub entries : g.entries ≡ es
  pub there : At s g.next (41 ∷ u)

pub entries-read : (s : List ℕ) (u : List ℕ) (es : List Entry) (n j : ℕ) → length es ≤ n → all entry_good es ≡ true → At s j (entries_text es ++ (41 ∷ u)) → ReadsAll s es u (entries_from n s j)
unfolding entries_text all add_entry
entries-read s u [] n j few good a = rw (from-none n s j (no-entry s j u a)) (record { entries = refl; there = a })
entries-read s u (e ∷ es) zero j few good a = absurd (omega arith)
entries-read s u (e ∷ es) (suc n) j few good a =
    let at : At s j (entry_text e ++ (entries_text es ++ (41 ∷ u))) = subst (At s j) (append_assoc (entry_text e) (entries_text es) (41 ∷ u)) a in
    let x = entry-read s j e (entries_text es ++ (41 ∷ u)) (and_l (entry_good e) (all entry_good es) good) at in
    let later = entries-read s u es n x.next (omega arith) (and_r (entry_good e) (all entry_good es) good) x.there in
    rw (from_more n s j x.read x.next x.is) (record { entries = λ i. x.entry i ∷ later.entries i; there = later.there })

-- ---- how long they are
entry-short : (e : Entry) → EntryFits e → length (entry_text e) ≤ ENTRY
unfolding entry_text
entry-short e (fo, fp, fr, fk) = pick (is_operation e.kind)
  where
    pick : (b : Bool) → length (cond b (operation_text e) (subdirectory_text e)) ≤ ENTRY
    pick true =
        let l = ap length (sym (append-nil (operation_text e)) ∙ operation-then e []) in
        let a = length-append (digits_of e.object) (32 ∷ (digits_of e.operation ++ (32 ∷ (digits_of e.rights ++ (41 ∷ []))))) in
        let b = length-append (digits_of e.operation) (32 ∷ (digits_of e.rights ++ (41 ∷ []))) in
        let c = length-append (digits_of e.rights) (41 ∷ []) in
        omega (arith, l, a, b, c, digits-few 1 e.object (omega arith), digits-few 2 e.operation (omega arith), digits-few 0 e.rights (omega arith))
    pick false =
        let l = ap length (sym (append-nil (subdirectory_text e)) ∙ subdirectory-then e []) in
        let a = length-append (digits_of e.object) (32 ∷ (digits_of e.rights ++ (41 ∷ []))) in
        let c = length-append (digits_of e.rights) (41 ∷ []) in
        omega (arith, l, a, c, digits-few 1 e.object (omega arith), digits-few 0 e.rights (omega arith))

pub entries-short : (es : List Entry) → all entry_good es ≡ true → length (entries_text es) ≤ ENTRY * length es
unfolding entries_text all
entries-short [] good = omega arith
entries-short (e ∷ es) good =
    omega (arith, length-append (entry_text e) (entries_text es), entry-short e (good-fits e (and_l (entry_good e) (all entry_good es) good)), entries-short es (and_r (entry_good e) (all entry_good es) good))
