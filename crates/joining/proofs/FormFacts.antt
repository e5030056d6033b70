-- What the forms that a first pass took say of a node and of a process: numbers and entries in range, a node for each process.
use Prim.Native.Nat.{ℕ, ◌≤◌}
use native.Mathlib.Omega.{arith}
use mathlib.Core.Bool.{Bool, true, false, ◌||◌, cond}
use mathlib.Core.List.{List, [], ◌∷◌}
use mathlib.Core.Path.{◌≡◌, refl, ap, sym, ◌∙◌}
use lib.Dec.{eqb}
use lib.ListN.{length}
use borrow.Author.Tests.{ne_eqb}
use Rattle.rows.specs.Lists.{any, all, each, some, between}
use Rattle.rows.specs.Limits.{nodes, processes, most_entries}
use Rattle.rows.proofs.Bools.{and_l, and_r, clash, pos-some}
use Rattle.rows.proofs.Places.{between-range}
use Rattle.text.specs.declared.Entry.{Entry}
use Rattle.text.specs.Opening.{Form, node_form, process_form, gives_node, gives_process, entry_ranged, prime_of}
use Rattle.text.proofs.OpeningForms.{entry_shaped, form_passed, node-passed, process-passed}
use Rattle.joining.specs.Joins.{node_in, entries_of, process_in}

-- the first form and the older ones
pub first-passed : (f : Form) (fs : List Form) → each form_passed (f ∷ fs) ≡ true → form_passed f fs ≡ true
unfolding each
first-passed f fs e = and_l (form_passed f fs) (each form_passed fs) e

pub older-passed : (f : Form) (fs : List Form) → each form_passed (f ∷ fs) ≡ true → each form_passed fs ≡ true
unfolding each
older-passed f fs e = and_r (form_passed f fs) (each form_passed fs) e

-- ---- nodes
-- no form gives a node out of range
pub node-outside : (fs : List Form) → each form_passed fs ≡ true → (n : ℕ) → between 1 nodes n ≡ false → node_in fs n ≡ false
unfolding node_in any gives_node
node-outside [] e n out = refl
node-outside (node_form m es ∷ fs) e n out =
    let k = node-passed fs m es (first-passed (node_form m es) fs e) in
    rw (ne_eqb m n (λ same. clash (ap (between 1 nodes) (sym same) ∙ k.node) out)) (node-outside fs (older-passed (node_form m es) fs e) n out)
node-outside (process_form p m ∷ fs) e n out = node-outside fs (older-passed (process_form p m) fs e) n out

-- a node's entries are in range, of the right shape, and not too many
pub record EntriesGood (es : List Entry) : Type 0 where
  pub ranged : all entry_ranged es ≡ true
  pub shaped : all entry_shaped es ≡ true
  pub few : length es ≤ most_entries

pub entries-good : (fs : List Form) → each form_passed fs ≡ true → (n : ℕ) → EntriesGood (entries_of fs n)
unfolding entries_of all most_entries
entries-good [] e n = record { ranged = refl; shaped = refl; few = omega arith }
entries-good (node_form m es ∷ fs) e n = pick (eqb m n) (entries-good fs (older-passed (node_form m es) fs e) n)
  where
    pick : (b : Bool) → EntriesGood (entries_of fs n) → EntriesGood (cond b es (entries_of fs n))
    pick true older = let k = node-passed fs m es (first-passed (node_form m es) fs e) in record { ranged = k.ranged; shaped = k.shaped; few = k.few }
    pick false older = older
entries-good (process_form p m ∷ fs) e n = entries-good fs (older-passed (process_form p m) fs e) n

-- ---- processes
-- a process is given if it has a prime node
pub prime-given : (fs : List Form) → each form_passed fs ≡ true → (p : ℕ) → some (prime_of fs p) ≡ process_in fs p
unfolding prime_of process_in any gives_process some
prime-given [] e p = refl
prime-given (node_form m es ∷ fs) e p = prime-given fs (older-passed (node_form m es) fs e) p
prime-given (process_form q m ∷ fs) e p =
    let k = process-passed fs q m (first-passed (process_form q m) fs e) in
    let (lo, hi) = between-range 1 nodes m k.node in
    pick (eqb q p) (pos-some m lo) (prime-given fs (older-passed (process_form q m) fs e) p)
  where
    pick : (b : Bool) → some m ≡ true → some (prime_of fs p) ≡ process_in fs p → some (cond b m (prime_of fs p)) ≡ b || any (gives_process p) fs
    pick true s older = s
    pick false s older = older

pub prime-outside : (fs : List Form) → each form_passed fs ≡ true → (p : ℕ) → between 1 processes p ≡ false → prime_of fs p ≡ 0
unfolding prime_of
prime-outside [] e p out = refl
prime-outside (node_form m es ∷ fs) e p out = prime-outside fs (older-passed (node_form m es) fs e) p out
prime-outside (process_form q m ∷ fs) e p out =
    let k = process-passed fs q m (first-passed (process_form q m) fs e) in
    rw (ne_eqb q p (λ same. clash (ap (between 1 processes) (sym same) ∙ k.process) out)) (prime-outside fs (older-passed (process_form q m) fs e) p out)
