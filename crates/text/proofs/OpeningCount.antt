-- At most 96 forms are taken, and at most 512 rows opened: distinct numbers between 1 and n are at most n.
use Prim.Native.Nat.{ℕ, zero, suc, ◌+◌, ◌*◌, ◌≤◌}
use native.Mathlib.Omega.{arith}
use mathlib.Core.Path.{◌≡◌, refl, sym, ap, ◌∙◌}
use mathlib.Core.Bool.{Bool, true, false, not, cond}
use mathlib.Core.List.{List, [], ◌∷◌, map}
use lib.ListN.{length, length-map}
use lib.Dec.{eqb}
use borrow.Author.Tests.{eqb-true, eqb-false, ne_eqb}
use Rattle.rows.specs.Lists.{filter, any, all, each, member, distinct, between}
use Rattle.rows.specs.Limits.{nodes, processes, most_entries}
use Rattle.rows.specs.Tables.{empty}
use Rattle.rows.proofs.Bools.{and_l, and_r, not_t, or-fl, or-fr, eqb-sym-f, all-and, all_filter}
use Rattle.rows.proofs.Places.{between-range, range-between}
use Rattle.rows.proofs.Lists.{map_same, distinct_filter, filter_passes}
use Rattle.text.specs.Opening.{Form, node_form, process_form, gives_node, gives_process, with_form, opened_from}
use Rattle.text.proofs.OpeningForms.{form_passed, node-passed, process-passed}
use Rattle.text.proofs.OpeningRows.{entries-length}

-- ---- distinct numbers between 1 and n
other : ℕ → ℕ → Bool
other m k = not (eqb m k)

without-none : (m : ℕ) (ns : List ℕ) → member m ns ≡ false → filter (other m) ns ≡ ns
unfolding filter member other
without-none m [] e = refl
without-none m (n ∷ ns) e = rw (or-fl (eqb m n) (member m ns) e, without-none m ns (or-fr (eqb m n) (member m ns) e)) refl

-- one of them at most is m
length_without : (m : ℕ) (ns : List ℕ) → distinct ns ≡ true → length ns ≤ suc (length (filter (other m) ns))
unfolding filter distinct other
length_without m [] e = omega arith
length_without m (n ∷ ns) e = pick (length_without m ns (and_r (not (member n ns)) (distinct ns) e)) (eqb m n) refl
  where
    pick : length ns ≤ suc (length (filter (other m) ns)) → (b : Bool) → eqb m n ≡ b → suc (length ns) ≤ suc (length (cond (not b) (n ∷ filter (other m) ns) (filter (other m) ns)))
    pick ih true q =
        let fresh : member m ns ≡ false = rw (eqb-true m n q) (not_t (member n ns) (and_l (not (member n ns)) (distinct ns) e)) in
        rw (without-none m ns fresh) (omega arith)
    pick ih false q = omega arith

below : (n k : ℕ) → other (suc n) k ≡ true → between 1 (suc n) k ≡ true → between 1 n k ≡ true
unfolding other
below n k o b =
    let (lo, hi) = between-range 1 (suc n) k b in
    let ne : suc n ≡ k → ⊥ = eqb-false (suc n) k (not_t (eqb (suc n) k) o) in
    range-between 1 n k lo (omega arith)

distinct-length : (n : ℕ) (ns : List ℕ) → distinct ns ≡ true → all (between 1 n) ns ≡ true → length ns ≤ n
unfolding all
distinct-length zero [] d r = omega arith
distinct-length zero (m ∷ ns) d r = let (lo, hi) = between-range 1 0 m (and_l (between 1 0 m) (all (between 1 0) ns) r) in absurd (omega arith)
distinct-length (suc n) ns d r =
    let l = length_without (suc n) ns d in
    let h : length (filter (other (suc n)) ns) ≤ n =
    distinct-length n (filter (other (suc n)) ns) (sym (same_keys (filter (other (suc n)) ns)) ∙ distinct_filter (λ k. k) (other (suc n)) ns (same_keys ns ∙ d))
    (all-and (other (suc n)) (between 1 (suc n)) (between 1 n) (below n) (filter (other (suc n)) ns) (filter_passes (other (suc n)) ns) (all_filter (other (suc n)) (between 1 (suc n)) ns r)) in
    omega arith
  where
    same_keys : (ks : List ℕ) → distinct (map (λ k. k) ks) ≡ distinct ks
    same_keys ks = ap distinct (map_same (λ k. k) (λ k. refl) ks)

-- ---- the nodes given
nodes_given : List Form → List ℕ
nodes_given [] = []
nodes_given (node_form n es ∷ fs) = n ∷ nodes_given fs
nodes_given (process_form p n ∷ fs) = nodes_given fs

given-member : (n : ℕ) (fs : List Form) → any (gives_node n) fs ≡ false → member n (nodes_given fs) ≡ false
unfolding any gives_node nodes_given member
given-member n [] e = refl
given-member n (node_form m es ∷ fs) e = rw (eqb-sym-f m n (or-fl (eqb m n) (any (gives_node n) fs) e)) (given-member n fs (or-fr (eqb m n) (any (gives_node n) fs) e))
given-member n (process_form p m ∷ fs) e = given-member n fs e

given-distinct : (fs : List Form) → each form_passed fs ≡ true → distinct (nodes_given fs) ≡ true
unfolding each distinct nodes_given
given-distinct [] e = refl
given-distinct (node_form n es ∷ fs) e =
    let k = node-passed fs n es (and_l (form_passed (node_form n es) fs) (each form_passed fs) e) in
    rw (given-member n fs k.fresh) (given-distinct fs (and_r (form_passed (node_form n es) fs) (each form_passed fs) e))
given-distinct (process_form p n ∷ fs) e = given-distinct fs (and_r (form_passed (process_form p n) fs) (each form_passed fs) e)

given-ranged : (fs : List Form) → each form_passed fs ≡ true → all (between 1 nodes) (nodes_given fs) ≡ true
unfolding each all nodes_given
given-ranged [] e = refl
given-ranged (node_form n es ∷ fs) e =
    let k = node-passed fs n es (and_l (form_passed (node_form n es) fs) (each form_passed fs) e) in
    rw k.node (given-ranged fs (and_r (form_passed (node_form n es) fs) (each form_passed fs) e))
given-ranged (process_form p n ∷ fs) e = given-ranged fs (and_r (form_passed (process_form p n) fs) (each form_passed fs) e)

-- ---- the rows opened
rows-of-nodes : (fs : List Form) → each form_passed fs ≡ true → length (opened_from empty fs).rows ≤ 16 * length (nodes_given fs)
unfolding each opened_from with_form empty nodes_given most_entries
rows-of-nodes [] e = omega arith
rows-of-nodes (node_form n es ∷ fs) e =
    let k = node-passed fs n es (and_l (form_passed (node_form n es) fs) (each form_passed fs) e) in
    let few : length es ≤ 16 = k.few in
    let l = entries-length es (opened_from empty fs).next n (opened_from empty fs).rows in
    let h = rows-of-nodes fs (and_r (form_passed (node_form n es) fs) (each form_passed fs) e) in
    omega arith
rows-of-nodes (process_form p n ∷ fs) e = rows-of-nodes fs (and_r (form_passed (process_form p n) fs) (each form_passed fs) e)

pub opened-few : (fs : List Form) → each form_passed fs ≡ true → length (opened_from empty fs).rows ≤ 512
unfolding nodes
opened-few fs e =
    let l : length (nodes_given fs) ≤ 32 = distinct-length nodes (nodes_given fs) (given-distinct fs e) (given-ranged fs e) in
    let h = rows-of-nodes fs e in
    omega arith

-- ---- the forms taken: each gives another node or another process
slot_of : Form → ℕ
slot_of (node_form n es) = n
slot_of (process_form p n) = nodes + p

older-passed : (f : Form) (fs : List Form) → each form_passed (f ∷ fs) ≡ true → (form_passed f fs ≡ true) × (each form_passed fs ≡ true)
unfolding each
older-passed f fs e = (and_l (form_passed f fs) (each form_passed fs) e, and_r (form_passed f fs) (each form_passed fs) e)

node-fresh : (n : ℕ) → between 1 nodes n ≡ true → (fs : List Form) → each form_passed fs ≡ true → any (gives_node n) fs ≡ false → member n (map slot_of fs) ≡ false
unfolding any gives_node member slot_of
node-fresh n r [] e fresh = refl
node-fresh n r (node_form m es ∷ fs) e fresh =
    let h = older-passed (node_form m es) fs e in
    rw (eqb-sym-f m n (or-fl (eqb m n) (any (gives_node n) fs) fresh)) (node-fresh n r fs h.1 (or-fr (eqb m n) (any (gives_node n) fs) fresh))
node-fresh n r (process_form p m ∷ fs) e fresh =
    let h = older-passed (process_form p m) fs e in
    let (lo, hi) = between-range 1 nodes n r in
    let (low, high) = between-range 1 processes p (process-passed fs p m h.0).process in
    rw (ne_eqb n (nodes + p) (omega arith)) (node-fresh n r fs h.1 fresh)

process-fresh : (p : ℕ) → between 1 processes p ≡ true → (fs : List Form) → each form_passed fs ≡ true → any (gives_process p) fs ≡ false → member (nodes + p) (map slot_of fs) ≡ false
unfolding any gives_process member slot_of
process-fresh p r [] e fresh = refl
process-fresh p r (node_form n es ∷ fs) e fresh =
    let h = older-passed (node_form n es) fs e in
    let (lo, hi) = between-range 1 nodes n (node-passed fs n es h.0).node in
    let (low, high) = between-range 1 processes p r in
    rw (ne_eqb (nodes + p) n (omega arith)) (process-fresh p r fs h.1 fresh)
process-fresh p r (process_form q m ∷ fs) e fresh =
    let h = older-passed (process_form q m) fs e in
    let other : q ≡ p → ⊥ = eqb-false q p (or-fl (eqb q p) (any (gives_process p) fs) fresh) in
    rw (ne_eqb (nodes + p) (nodes + q) (λ same. other (omega arith))) (process-fresh p r fs h.1 (or-fr (eqb q p) (any (gives_process p) fs) fresh))

slots-distinct : (fs : List Form) → each form_passed fs ≡ true → distinct (map slot_of fs) ≡ true
unfolding distinct slot_of
slots-distinct [] e = refl
slots-distinct (node_form n es ∷ fs) e =
    let h = older-passed (node_form n es) fs e in
    let k = node-passed fs n es h.0 in
    rw (node-fresh n k.node fs h.1 k.fresh) (slots-distinct fs h.1)
slots-distinct (process_form p n ∷ fs) e =
    let h = older-passed (process_form p n) fs e in
    let k = process-passed fs p n h.0 in
    rw (process-fresh p k.process fs h.1 k.fresh) (slots-distinct fs h.1)

slots-ranged : (fs : List Form) → each form_passed fs ≡ true → all (between 1 (nodes + processes)) (map slot_of fs) ≡ true
unfolding all slot_of
slots-ranged [] e = refl
slots-ranged (node_form n es ∷ fs) e =
    let h = older-passed (node_form n es) fs e in
    let (lo, hi) = between-range 1 nodes n (node-passed fs n es h.0).node in
    rw (range-between 1 (nodes + processes) n lo (omega arith)) (slots-ranged fs h.1)
slots-ranged (process_form p n ∷ fs) e =
    let h = older-passed (process_form p n) fs e in
    let (lo, hi) = between-range 1 processes p (process-passed fs p n h.0).process in
    rw (range-between 1 (nodes + processes) (nodes + p) (omega arith) (omega arith)) (slots-ranged fs h.1)

pub forms-few : (fs : List Form) → each form_passed fs ≡ true → length fs ≤ nodes + processes
forms-few fs e = rw (length-map fs slot_of) at (distinct-length (nodes + processes) (map slot_of fs) (slots-distinct fs e) (slots-ranged fs e))
