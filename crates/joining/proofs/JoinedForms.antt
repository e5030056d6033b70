-- The joined forms turned round, as an opening has read them: what they say of each node and process, that each passes, and that all they name is listed.
use Prim.Native.Nat.{ℕ, ◌≤◌}
use native.Mathlib.Omega.{arith}
use mathlib.Core.Bool.{Bool, true, false, not, cond, ◌&&◌, ◌||◌}
use mathlib.Core.List.{List, [], ◌∷◌, ◌++◌, reverse, reverse_aux, reverse_aux-append}
use mathlib.Core.Path.{◌≡◌, refl, sym, ap, ◌∙◌}
use lib.Dec.{eqb}
use lib.ListN.{length}
use borrow.Author.Tests.{le-ltb}
use Rattle.rows.specs.Lists.{any, all, each, filter, between, some}
use Rattle.rows.specs.Codes.{is_operation}
use Rattle.rows.specs.Limits.{nodes, processes, most_entries}
use Rattle.rows.proofs.Bools.{clash, and_l, and_r, and_i, all-and, all-eq, all-mono, and-false, none-zero, not_f}
use Rattle.rows.proofs.Places.{between-range}
use Rattle.text.specs.declared.Entry.{Entry}
use Rattle.text.specs.Opening.{Form, node_form, process_form, entry_ranged, gives_node, gives_process, form_refusal, entry_listed, form_listed, entries_in, prime_of}
use Rattle.text.proofs.OpeningForms.{entry_shaped, form_passed, process-passed}
use Rattle.joining.specs.Joins.{node_in, process_in, entries_of, same_entry, with_all_new, entries_joined, prime_joined, numbers_from, nodes_joined, processes_joined, forms_joined, name_missing, node_crowded}
use Rattle.joining.specs.vocabulary.Listed.{node_listed, prime_listed}
use Rattle.joining.proofs.FormFacts.{first-passed, older-passed, node-outside, prime-given, prime-outside}
use Rattle.joining.proofs.NewEntries.{all-new-all}
use Rattle.joining.proofs.MergedNodes.{entry_good, joined-good}
use Rattle.joining.proofs.ListedNames.{no-entries, all-forms, node-either, process-either, text-listed}
use Rattle.joining.proofs.SlotLines.{joined-few}
use Rattle.joining.proofs.NumberedForms.{among, among_in, said, unsaid, all_pass}

-- ---- what forms say of their own numbers
node-own : (E : ℕ → List Entry) (m : ℕ) (fs : List Form) (n : ℕ) → node_in (node_form m (E m) ∷ fs) n ≡ cond (eqb m n) true (node_in fs n)
unfolding node_in any gives_node
node-own E m fs n = pick (eqb m n) (any (gives_node n) fs)
  where
    pick : (a b : Bool) → a || b ≡ cond a true b
    pick true b = refl
    pick false b = refl

process-own : (P : ℕ → ℕ) (m : ℕ) (fs : List Form) (p : ℕ) → process_in (process_form m (P m) ∷ fs) p ≡ cond (eqb m p) true (process_in fs p)
unfolding process_in any gives_process
process-own P m fs p = pick (eqb m p) (any (gives_process p) fs)
  where
    pick : (a b : Bool) → a || b ≡ cond a true b
    pick true b = refl
    pick false b = refl

-- a process has no prime node out of range, so it is not given
process-outside : (fs : List Form) → each form_passed fs ≡ true → (p : ℕ) → between 1 processes p ≡ false → process_in fs p ≡ false
unfolding some
process-outside fs e p out = sym (prime-given fs e p) ∙ ap some (prime-outside fs e p out)

-- a prime node is in range
prime-range : (fs : List Form) → each form_passed fs ≡ true → (p : ℕ) → process_in fs p ≡ true → between 1 nodes (prime_of fs p) ≡ true
unfolding prime_of process_in any gives_process
prime-range [] e p g = clash g refl
prime-range (node_form m es ∷ fs) e p g = prime-range fs (older-passed (node_form m es) fs e) p g
prime-range (process_form q m ∷ fs) e p g =
    pick (eqb q p) (process-passed fs q m (first-passed (process_form q m) fs e)).node (prime-range fs (older-passed (process_form q m) fs e) p) g
  where
    pick : (b : Bool) → between 1 nodes m ≡ true → (any (gives_process p) fs ≡ true → between 1 nodes (prime_of fs p) ≡ true) → b || any (gives_process p) fs ≡ true
        → between 1 nodes (cond b m (prime_of fs p)) ≡ true
    pick true r ih g = r
    pick false r ih g = ih g

-- ---- a form that passes
node-passes : (n : ℕ) (es : List Entry) (fs : List Form) → between 1 nodes n ≡ true → all entry_good es ≡ true → length es ≤ most_entries → node_in fs n ≡ false
    → form_passed (node_form n es) fs ≡ true
unfolding form_passed form_refusal entries_in entry_good node_in
node-passes n es fs range good few new =
    let ranged = all-mono entry_good entry_ranged (λ e h. and_l (entry_ranged e) (entry_shaped e) h) es good in
    let shaped = all-mono entry_good entry_shaped (λ e h. and_r (entry_ranged e) (entry_shaped e) h) es good in
    rw (range, ranged, new, le-ltb most_entries (length es) few) shaped

process-passes : (p n : ℕ) (fs : List Form) → between 1 processes p ≡ true → between 1 nodes n ≡ true → process_in fs p ≡ false → form_passed (process_form p n) fs ≡ true
unfolding form_passed form_refusal entries_in process_in all
process-passes p n fs process range new = rw (process, range, new) refl

if-true : (b : Bool) → cond b true false ≡ b
if-true true = refl
if-true false = refl

-- a test that no number out of range passes
given-all : (most : ℕ) (given : ℕ → Bool) → ((n : ℕ) → between 1 most n ≡ false → given n ≡ false) → (n : ℕ) → among 1 most n && given n ≡ given n
given-all most given beyond n = pick (between 1 most n) refl
  where
    pick : (b : Bool) → between 1 most n ≡ b → among 1 most n && given n ≡ given n
    pick true e = let (lo, hi) = between-range 1 most n e in rw (among_in 1 most n lo (omega arith)) refl
    pick false e = rw (beyond n e) (and-false (among 1 most n))

module _ (fs gs : List Form) (pf : each form_passed fs ≡ true) (pg : each form_passed gs ≡ true) where
  neither : (n : ℕ) → node_in fs n ≡ false → entries_of gs n ≡ [] → entries_joined fs gs n ≡ []
  unfolding entries_joined
  neither n e none = rw e none

  no-prime : (p : ℕ) → process_in fs p ≡ false → prime_of gs p ≡ 0 → prime_joined fs gs p ≡ 0
  unfolding prime_joined
  no-prime p e none = rw e none

  abbrev node_given : ℕ → Bool
  node_given n = node_in fs n || node_in gs n

  abbrev process_given : ℕ → Bool
  process_given p = process_in fs p || process_in gs p

  abbrev node_made : ℕ → Form
  node_made n = node_form n (entries_joined fs gs n)

  abbrev process_made : ℕ → Form
  process_made p = process_form p (prime_joined fs gs p)

  -- nodes first, so they are read first
  abbrev turned : List Form
  turned = reverse_aux (processes_joined fs gs) (reverse_aux (nodes_joined fs gs) [])

  pub turned-is : reverse (forms_joined fs gs) ≡ turned
  unfolding forms_joined
  turned-is = reverse_aux-append (nodes_joined fs gs) (processes_joined fs gs) []

  -- ---- what they say of each node and each process
  node-beyond : (n : ℕ) → between 1 nodes n ≡ false → node_given n ≡ false
  node-beyond n out = rw (node-outside fs pf n out, node-outside gs pg n out) refl

  process-beyond : (p : ℕ) → between 1 processes p ≡ false → process_given p ≡ false
  process-beyond p out = rw (process-outside fs pf p out, process-outside gs pg p out) refl

  pub node-turned : (n : ℕ) → node_in (reverse (forms_joined fs gs)) n ≡ node_in fs n || node_in gs n
  unfolding nodes_joined processes_joined node_in any gives_node
  node-turned n =
      ap (λ (hs : List Form). node_in hs n) turned-is
      ∙ unsaid process_given process_made node_in (λ m hs k. refl) (filter process_given (numbers_from 1 processes)) (reverse_aux (nodes_joined fs gs) []) n
      ∙ said node_given node_made node_in (λ k. true) (node-own (entries_joined fs gs)) nodes 1 [] n
      ∙ if-true (among 1 nodes n && node_given n) ∙ given-all nodes node_given node-beyond n

  pub entries-turned : (n : ℕ) → entries_of (reverse (forms_joined fs gs)) n ≡ entries_joined fs gs n
  unfolding nodes_joined processes_joined entries_of
  entries-turned n =
      ap (λ (hs : List Form). entries_of hs n) turned-is
      ∙ unsaid process_given process_made entries_of (λ m hs k. refl) (filter process_given (numbers_from 1 processes)) (reverse_aux (nodes_joined fs gs) []) n
      ∙ said node_given node_made entries_of (entries_joined fs gs) (λ m hs k. refl) nodes 1 [] n
      ∙ ap (λ (b : Bool). cond b (entries_joined fs gs n) []) (given-all nodes node_given node-beyond n)
      ∙ pick (node_in fs n) refl (node_in gs n) refl
    where
      pick : (a : Bool) → node_in fs n ≡ a → (b : Bool) → node_in gs n ≡ b → cond (a || b) (entries_joined fs gs n) [] ≡ entries_joined fs gs n
      pick true e b q = refl
      pick false e true q = refl
      pick false e false q = sym (neither n e (no-entries gs n q))

  pub process-turned : (p : ℕ) → process_in (reverse (forms_joined fs gs)) p ≡ process_in fs p || process_in gs p
  unfolding nodes_joined processes_joined process_in any gives_process
  process-turned p =
      ap (λ (hs : List Form). process_in hs p) turned-is
      ∙ said process_given process_made process_in (λ k. true) (process-own (prime_joined fs gs)) processes 1 (reverse_aux (nodes_joined fs gs) []) p
      ∙ ap (cond (among 1 processes p && process_given p) true) (unsaid node_given node_made process_in (λ m hs k. refl) (filter node_given (numbers_from 1 nodes)) [] p)
      ∙ if-true (among 1 processes p && process_given p) ∙ given-all processes process_given process-beyond p

  pub prime-turned : (p : ℕ) → prime_of (reverse (forms_joined fs gs)) p ≡ prime_joined fs gs p
  unfolding nodes_joined processes_joined prime_of
  prime-turned p =
      ap (λ (hs : List Form). prime_of hs p) turned-is
      ∙ said process_given process_made prime_of (prime_joined fs gs) (λ m hs k. refl) processes 1 (reverse_aux (nodes_joined fs gs) []) p
      ∙ ap (cond (among 1 processes p && process_given p) (prime_joined fs gs p)) (unsaid node_given node_made prime_of (λ m hs k. refl) (filter node_given (numbers_from 1 nodes)) [] p)
      ∙ ap (λ (b : Bool). cond b (prime_joined fs gs p) 0) (given-all processes process_given process-beyond p)
      ∙ pick (process_in fs p) refl (process_in gs p) refl
    where
      pick : (a : Bool) → process_in fs p ≡ a → (b : Bool) → process_in gs p ≡ b → cond (a || b) (prime_joined fs gs p) 0 ≡ prime_joined fs gs p
      pick true e b q = refl
      pick false e true q = refl
      pick false e false q = sym (no-prime p e (none-zero (prime_of gs p) (prime-given gs pg p ∙ q)))

  -- ---- each passes
  prime-good : (p : ℕ) → process_given p ≡ true → between 1 nodes (prime_joined fs gs p) ≡ true
  unfolding prime_joined
  prime-good p g = pick (process_in fs p) refl g
    where
      pick : (a : Bool) → process_in fs p ≡ a → a || process_in gs p ≡ true → between 1 nodes (cond a (prime_of fs p) (prime_of gs p)) ≡ true
      pick true e g = prime-range fs pf p e
      pick false e g = prime-range gs pg p g

  pub passed-turned : node_crowded fs gs ≡ false → each form_passed (reverse (forms_joined fs gs)) ≡ true
  unfolding nodes_joined processes_joined node_in process_in any gives_node gives_process each nodes most_entries
  passed-turned room =
      ap (each form_passed) turned-is
      ∙ all_pass process_given process_made processes process_in (λ m hs k. refl)
      (λ m hs r g new. process-passes m (prime_joined fs gs m) hs r (prime-good m g) new) processes 1 (reverse_aux (nodes_joined fs gs) []) (omega arith) (omega arith)
      (λ k h. unsaid node_given node_made process_in (λ m hs k. refl) (filter node_given (numbers_from 1 nodes)) [] k)
      (all_pass node_given node_made nodes node_in (λ m hs k. refl)
      (λ m hs r g new. let (lo, hi) = between-range 1 nodes m r in node-passes m (entries_joined fs gs m) hs r (joined-good fs gs pf pg m) (joined-few fs gs room m lo hi) new)
      nodes 1 [] (omega arith) (omega arith) (λ k h. refl) refl)

  -- ---- all that they name is listed
  entry-same : (e : Entry) → entry_listed (reverse (forms_joined fs gs)) e ≡ entry_listed (fs ++ gs) e
  unfolding entry_listed node_in process_in
  entry-same e = pick (is_operation e.kind)
    where
      pick : (b : Bool) → cond b (process_in (reverse (forms_joined fs gs)) e.object) (node_in (reverse (forms_joined fs gs)) e.object)
          ≡ cond b (process_in (fs ++ gs) e.object) (node_in (fs ++ gs) e.object)
      pick true = process-turned e.object ∙ sym (process-either fs gs e.object)
      pick false = node-turned e.object ∙ sym (node-either fs gs e.object)

  form-same : (f : Form) → form_listed (reverse (forms_joined fs gs)) f ≡ form_listed (fs ++ gs) f
  unfolding form_listed node_in
  form-same (node_form n es) = all-eq (entry_listed (reverse (forms_joined fs gs))) (entry_listed (fs ++ gs)) entry-same es
  form-same (process_form p n) = node-turned n ∙ sym (node-either fs gs n)

  node-names : (n : ℕ) → node_listed (fs ++ gs) fs n ≡ true → node_listed (fs ++ gs) gs n ≡ true → node_listed (fs ++ gs) (reverse (forms_joined fs gs)) n ≡ true
  unfolding entries_joined
  node-names n f g = ap (all (entry_listed (fs ++ gs))) (entries-turned n) ∙ pick (node_in fs n)
    where
      pick : (b : Bool) → all (entry_listed (fs ++ gs)) (cond b (with_all_new same_entry (entries_of fs n) (entries_of gs n)) (entries_of gs n)) ≡ true
      pick true = all-new-all same_entry (entry_listed (fs ++ gs)) (entries_of gs n) (entries_of fs n) f g
      pick false = g

  process-names : (p : ℕ) → prime_listed (fs ++ gs) fs p ≡ true → prime_listed (fs ++ gs) gs p ≡ true → prime_listed (fs ++ gs) (reverse (forms_joined fs gs)) p ≡ true
  unfolding prime_joined
  process-names p f g = (λ i. not (process-turned p i) || node_in (fs ++ gs) (prime-turned p i)) ∙ pick (process_in fs p) f
    where
      pick : (a : Bool) → not a || node_in (fs ++ gs) (prime_of fs p) ≡ true → not (a || process_in gs p) || node_in (fs ++ gs) (cond a (prime_of fs p) (prime_of gs p)) ≡ true
      pick true f = f
      pick false f = g

  pub listed-turned : node_crowded fs gs ≡ false → name_missing fs gs ≡ false → all (form_listed (reverse (forms_joined fs gs))) (reverse (forms_joined fs gs)) ≡ true
  unfolding name_missing
  listed-turned room named =
      let ls = fs ++ gs in
      let hs = reverse (forms_joined fs gs) in
      let both = sym (all-forms fs gs (form_listed ls) fs) ∙ not_f (all (form_listed ls) ls) named in
      let f = text-listed ls fs pf ∙ and_l (all (form_listed ls) fs) (all (form_listed ls) gs) both in
      let g = text-listed ls gs pg ∙ and_r (all (form_listed ls) fs) (all (form_listed ls) gs) both in
      let ns = numbers_from 1 nodes in
      let ps = numbers_from 1 processes in
      let n = all-and (node_listed ls fs) (node_listed ls gs) (node_listed ls hs) node-names ns
      (and_l (all (node_listed ls fs) ns) (all (prime_listed ls fs) ps) f) (and_l (all (node_listed ls gs) ns) (all (prime_listed ls gs) ps) g) in
      let p = all-and (prime_listed ls fs) (prime_listed ls gs) (prime_listed ls hs) process-names ps
      (and_r (all (node_listed ls fs) ns) (all (prime_listed ls fs) ps) f) (and_r (all (node_listed ls gs) ns) (all (prime_listed ls gs) ps) g) in
      all-eq (form_listed hs) (form_listed ls) form-same hs ∙ sym (text-listed ls hs (passed-turned room)) ∙ and_i (all (node_listed ls hs) ns) (all (prime_listed ls hs) ps) n p
