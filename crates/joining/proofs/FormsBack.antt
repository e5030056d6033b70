-- A form whose numbers are in range, written as a line, reads back as itself; so does a text of them, line by line.
use Prim.Native.Nat.{ℕ, ◌≤◌, ◌<◌}
use native.Mathlib.Omega.{arith}
use mathlib.Core.Bool.{Bool, true, false, cond}
use mathlib.Core.List.{List, [], ◌∷◌, ◌++◌, append_assoc}
use mathlib.Core.Path.{◌≡◌, refl, sym, ap, subst, ◌∙◌}
use lib.ListN.{length, get_or, length-append}
use borrow.Author.Tests.{le-ltb}
use Rattle.rows.specs.Lists.{bytes, between, all}
use Rattle.rows.specs.Limits.{nodes, processes, most_bytes, most_entries}
use Rattle.rows.specs.Codes.{is_operation}
use Rattle.rows.proofs.Places.{between-range}
use Rattle.calls.specs.Answers.{num}
use Rattle.text.specs.declared.Entry.{Entry}
use Rattle.text.specs.Patterns.{is_digit, bad, began, form, whole, pieces, piece, itself, passed, most_groups}
use Rattle.text.specs.Opening.{Form, node_form, process_form, Line, last_line, form_line, bad_line, lines_of, entries_from, node_line, process_line, open_line, line_of}
use Rattle.text.specs.Answers.{digits_of, spaced}
use Rattle.text.proofs.Cursor.{At, at-start, at-skip, at_next, reading, takes-byte, other_byte, takes-number, then-reads, reads_all, then-bad, ends}
use Rattle.text.proofs.GroupsBack.{last-bracket}
use Rattle.text.proofs.Lines.{plain, plain-append, plain-digits, line-ends}
use Rattle.joining.specs.Written.{operation_text, subdirectory_text, entry_text, entries_text, form_text}
use Rattle.joining.proofs.MergedNodes.{entry_good}
use Rattle.joining.proofs.FormTexts.{digits-few}
use Rattle.joining.proofs.EntriesBack.{value-then, two_then, operation-then, subdirectory-then, small, entries-read, entries-short}

-- ---- a short line is read
short : (s : List ℕ) → length s ≤ 256 → line_of s ≡ node_line s (process_line s (open_line s bad_line))
unfolding line_of most_bytes
short s h = rw (le-ltb 256 (length s) h) refl

-- ---- a node's line
module _ (n : ℕ) (es : List Entry) (range : between 1 nodes n ≡ true) (good : all entry_good es ≡ true) (few : length es ≤ most_entries) where
  node-text : form_text (node_form n es) ≡ 40 ∷ 110 ∷ 111 ∷ 100 ∷ 101 ∷ 32 ∷ (digits_of n ++ (entries_text es ++ (41 ∷ 10 ∷ [])))
  unfolding form_text bytes
  node-text = ap (λ (l : List ℕ). 40 ∷ 110 ∷ 111 ∷ 100 ∷ 101 ∷ l) (value-then n (entries_text es ++ (41 ∷ 10 ∷ [])))

  -- what follows the number is no digit
  leads : (ds : List Entry) → is_digit (get_or (entries_text ds ++ (41 ∷ 10 ∷ [])) 0 0) ≡ false
  unfolding entries_text entry_text operation_text subdirectory_text bytes is_digit between
  leads [] = refl
  leads (d ∷ ds) = pick (is_operation d.kind)
    where
      pick : (b : Bool) → is_digit (get_or ((cond b (operation_text d) (subdirectory_text d) ++ entries_text ds) ++ (41 ∷ 10 ∷ [])) 0 0) ≡ false
      pick true = refl
      pick false = refl

  node-few : n < 100
  unfolding nodes
  node-few = let (lo, hi) = between-range 1 32 n range in omega arith

  pub node-back : line_of (form_text (node_form n es)) ≡ form_line (node_form n es)
  unfolding node_line form began bytes is_digit between most_entries most_groups
  node-back =
      let s = form_text (node_form n es) in
      let a0 : At s 0 (40 ∷ 110 ∷ 111 ∷ 100 ∷ 101 ∷ 32 ∷ (digits_of n ++ (entries_text es ++ (41 ∷ 10 ∷ [])))) = subst (At s 0) node-text (at-start s) in
      let a1 = at_next s 0 40 _ a0 in
      let a2 = at_next s _ 110 _ a1 in
      let a3 = at_next s _ 111 _ a2 in
      let a4 = at_next s _ 100 _ a3 in
      let a5 = at_next s _ 101 _ a4 in
      let a6 = at_next s _ 32 _ a5 in
      let a7 = at-skip s _ (digits_of n) _ a6 in
      let head = then-reads s (reading 0 0 0 0 0) _ _ 40 (110 ∷ 111 ∷ 100 ∷ 101 ∷ 32 ∷ 35 ∷ []) (takes-byte s 0 0 0 0 0 40 _ a0 refl refl)
      (then-reads s _ _ _ 110 _ (takes-byte s _ 0 0 0 0 110 _ a1 refl refl)
      (then-reads s _ _ _ 111 _ (takes-byte s _ 0 0 0 0 111 _ a2 refl refl)
      (then-reads s _ _ _ 100 _ (takes-byte s _ 0 0 0 0 100 _ a3 refl refl)
      (then-reads s _ _ _ 101 _ (takes-byte s _ 0 0 0 0 101 _ a4 refl refl)
      (then-reads s _ _ _ 32 _ (takes-byte s _ 0 0 0 0 32 _ a5 refl refl)
      (then-reads s _ _ _ 35 _ (takes-number s _ 0 0 0 0 n _ a6 (small n (let h = node-few in omega arith)) (leads es)) (reads_all s _))))))) in
      let entries = entries-read s (10 ∷ []) es most_groups _ (omega arith) good a7 in
      let size = a7.size in
      let l = length-append (entries_text es) (41 ∷ 10 ∷ []) in
      short s (omega (arith, size, l, entries-short es good, few, digits-few 1 n node-few))
      ∙ rw (head, last-bracket s _ entries.there) (ap (λ (ds : List Entry). form_line (node_form n ds)) entries.entries)

-- ---- a process's line
module _ (p n : ℕ) (process-range : between 1 processes p ≡ true) (range : between 1 nodes n ≡ true) where
  process-text : form_text (process_form p n) ≡ 40 ∷ 112 ∷ 114 ∷ 111 ∷ 99 ∷ 101 ∷ 115 ∷ 115 ∷ 32 ∷ (digits_of p ++ (32 ∷ (digits_of n ++ (41 ∷ 10 ∷ []))))
  unfolding form_text bytes
  process-text = ap (λ (l : List ℕ). 40 ∷ 112 ∷ 114 ∷ 111 ∷ 99 ∷ 101 ∷ 115 ∷ 115 ∷ l) (two_then p n (41 ∷ 10 ∷ []))

  process-few : p < 100
  unfolding processes
  process-few = let (lo, hi) = between-range 1 64 p process-range in omega arith

  prime-few : n < 100
  unfolding nodes
  prime-few = let (lo, hi) = between-range 1 32 n range in omega arith

  no_node : (s u : List ℕ) (other : Line) → At s 0 (40 ∷ 112 ∷ u) → node_line s other ≡ other
  unfolding node_line form began bytes bad
  no_node s u other a =
      rw (then-reads s (reading 0 0 0 0 0) _ bad 40 (110 ∷ 111 ∷ 100 ∷ 101 ∷ 32 ∷ 35 ∷ []) (takes-byte s 0 0 0 0 0 40 _ a refl refl)
      (then-bad s _ 110 (111 ∷ 100 ∷ 101 ∷ 32 ∷ 35 ∷ []) (other_byte s _ 0 0 0 0 112 110 u (at_next s 0 40 _ a) refl refl refl))) refl

  pub process-back : line_of (form_text (process_form p n)) ≡ form_line (process_form p n)
  unfolding process_line form began bytes is_digit between
  process-back =
      let s = form_text (process_form p n) in
      let a0 : At s 0 (40 ∷ 112 ∷ 114 ∷ 111 ∷ 99 ∷ 101 ∷ 115 ∷ 115 ∷ 32 ∷ (digits_of p ++ (32 ∷ (digits_of n ++ (41 ∷ 10 ∷ []))))) = subst (At s 0) process-text (at-start s) in
      let a1 = at_next s 0 40 _ a0 in
      let a2 = at_next s _ 112 _ a1 in
      let a3 = at_next s _ 114 _ a2 in
      let a4 = at_next s _ 111 _ a3 in
      let a5 = at_next s _ 99 _ a4 in
      let a6 = at_next s _ 101 _ a5 in
      let a7 = at_next s _ 115 _ a6 in
      let a8 = at_next s _ 115 _ a7 in
      let a9 = at_next s _ 32 _ a8 in
      let b1 = at-skip s _ (digits_of p) _ a9 in
      let b2 = at_next s _ 32 _ b1 in
      let b3 = at-skip s _ (digits_of n) _ b2 in
      let b4 = at_next s _ 41 _ b3 in
      let b5 = at_next s _ 10 _ b4 in
      let read = then-reads s (reading 0 0 0 0 0) _ _ 40 (112 ∷ 114 ∷ 111 ∷ 99 ∷ 101 ∷ 115 ∷ 115 ∷ 32 ∷ 35 ∷ 32 ∷ 35 ∷ 41 ∷ 10 ∷ []) (takes-byte s 0 0 0 0 0 40 _ a0 refl refl)
      (then-reads s _ _ _ 112 _ (takes-byte s _ 0 0 0 0 112 _ a1 refl refl)
      (then-reads s _ _ _ 114 _ (takes-byte s _ 0 0 0 0 114 _ a2 refl refl)
      (then-reads s _ _ _ 111 _ (takes-byte s _ 0 0 0 0 111 _ a3 refl refl)
      (then-reads s _ _ _ 99 _ (takes-byte s _ 0 0 0 0 99 _ a4 refl refl)
      (then-reads s _ _ _ 101 _ (takes-byte s _ 0 0 0 0 101 _ a5 refl refl)
      (then-reads s _ _ _ 115 _ (takes-byte s _ 0 0 0 0 115 _ a6 refl refl)
      (then-reads s _ _ _ 115 _ (takes-byte s _ 0 0 0 0 115 _ a7 refl refl)
      (then-reads s _ _ _ 32 _ (takes-byte s _ 0 0 0 0 32 _ a8 refl refl)
      (then-reads s _ _ _ 35 _ (takes-number s _ 0 0 0 0 p _ a9 (small p (let h = process-few in omega arith)) refl)
      (then-reads s _ _ _ 32 _ (takes-byte s _ 0 0 0 p 32 _ b1 refl refl)
      (then-reads s _ _ _ 35 _ (takes-number s _ 0 0 0 p n _ b2 (small n (let h = prime-few in omega arith)) refl)
      (then-reads s _ _ _ 41 _ (takes-byte s _ 0 0 p n 41 _ b3 refl refl)
      (then-reads s _ _ _ 10 _ (takes-byte s _ 0 0 p n 10 _ b4 refl refl) (reads_all s _)))))))))))))) in
      let size = b5.size in
      short s (omega (arith, size, digits-few 1 p process-few, digits-few 1 n prime-few)) ∙ no_node s _ _ a0 ∙ (rw (read, ends s _ 0 0 p n b5) refl)

-- ---- the last line
pub open-back : line_of (bytes "(open)\n") ≡ last_line
unfolding line_of node_line process_line open_line form began whole bytes pieces piece itself passed bad entries_from most_groups most_bytes
open-back = refl

-- ---- a text cut at its line feeds
-- all bytes but the last of a line are no line feed
module _ (u : List ℕ) (rest : plain u ≡ true) where
  plain_value : (n : ℕ) → plain (spaced (num n ∷ []) ++ u) ≡ true
  unfolding plain all
  plain_value n = ap plain (value-then n u) ∙ plain-append (digits_of n) u (plain-digits n) rest

  plain-two : (m n : ℕ) → plain (spaced (num m ∷ num n ∷ []) ++ u) ≡ true
  unfolding plain all
  plain-two m n = ap plain (two_then m n u) ∙ plain-append (digits_of m) (32 ∷ (digits_of n ++ u)) (plain-digits m) (plain-append (digits_of n) u (plain-digits n) rest)

  plain_entry : (e : Entry) → plain (entry_text e ++ u) ≡ true
  unfolding entry_text plain all
  plain_entry e = pick (is_operation e.kind)
    where
      pick : (b : Bool) → plain (cond b (operation_text e) (subdirectory_text e) ++ u) ≡ true
      pick true =
          ap plain (operation-then e u)
          ∙ plain-append (digits_of e.object) _ (plain-digits e.object) (plain-append (digits_of e.operation) _ (plain-digits e.operation) (plain-append (digits_of e.rights) (41 ∷ u) (plain-digits e.rights) rest))
      pick false =
          ap plain (subdirectory-then e u) ∙ plain-append (digits_of e.object) _ (plain-digits e.object) (plain-append (digits_of e.rights) (41 ∷ u) (plain-digits e.rights) rest)

plain-entries : (es : List Entry) → plain (entries_text es ++ (41 ∷ [])) ≡ true
unfolding entries_text plain all
plain-entries [] = refl
plain-entries (e ∷ es) = ap plain (append_assoc (entry_text e) (entries_text es) (41 ∷ [])) ∙ plain_entry (entries_text es ++ (41 ∷ [])) (plain-entries es) e

-- a form's line: its bytes, then a line feed
record Ended (l : List ℕ) : Type 0 where
  body : List ℕ
  is : l ≡ body ++ (10 ∷ [])
  plain_body : plain body ≡ true

line-ended : (f : Form) → Ended (form_text f)
unfolding form_text bytes plain all
line-ended (node_form n es) =
    record {
      body = bytes "(node" ++ (spaced (num n ∷ []) ++ (entries_text es ++ (41 ∷ [])));
      is = ap (λ (l : List ℕ). 40 ∷ 110 ∷ 111 ∷ 100 ∷ 101 ∷ l)
          (ap (λ (l : List ℕ). spaced (num n ∷ []) ++ l) (sym (append_assoc (entries_text es) (41 ∷ []) (10 ∷ []))) ∙ sym (append_assoc (spaced (num n ∷ [])) (entries_text es ++ (41 ∷ [])) (10 ∷ [])));
      plain_body = plain_value (entries_text es ++ (41 ∷ [])) (plain-entries es) n;
    }
line-ended (process_form p n) =
    record {
      body = bytes "(process" ++ (spaced (num p ∷ num n ∷ []) ++ (41 ∷ []));
      is = ap (λ (l : List ℕ). 40 ∷ 112 ∷ 114 ∷ 111 ∷ 99 ∷ 101 ∷ 115 ∷ 115 ∷ l) (sym (append_assoc (spaced (num p ∷ num n ∷ [])) (41 ∷ []) (10 ∷ [])));
      plain_body = plain-two (41 ∷ []) refl p n;
    }

pub form-first : (f : Form) (y : List ℕ) → lines_of (form_text f ++ y) ≡ form_text f ∷ lines_of y
form-first f y =
    let k = line-ended f in
    ap (λ (l : List ℕ). lines_of (l ++ y)) k.is ∙ ap lines_of (append_assoc k.body (10 ∷ []) y) ∙ line-ends k.body y k.plain_body ∙ ap (λ (l : List ℕ). l ∷ lines_of y) (sym k.is)
