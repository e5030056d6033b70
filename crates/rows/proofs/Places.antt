-- Kinds and places: which exclude each other, what is in range, and what an unused row is.
use Rattle.std.proofs.Common.{◌≡◌, ℕ, ◌+◌, ◌≤◌, true, false, eqb, leb, List, refl, ⊎_elim, arith, ne_eqb, eqb-true, le-leb, leb-true}
use Rattle.rows.specs.declared.Row.{Row}
use Rattle.rows.specs.declared.Request.{Request}
use Rattle.rows.specs.declared.Process.{Process}
use Rattle.rows.specs.Lists.{between, some}
use Rattle.rows.specs.Limits.{processes, nodes}
use Rattle.rows.specs.Codes.{operation, subdirectory, client_end, server_end, is_operation, is_subdirectory, is_client, is_server, is_end, is_copied, in_clist, with_system, is_node, is_clist, is_system}
use Rattle.rows.specs.Tables.{no_row}
use Rattle.rows.specs.Sound.{place_in_range, may_be_listed}
use Rattle.rows.proofs.Bools.{false_of, and_l, and_r, and_i, or_cases, or_l, or_r}

-- ---- ranges
pub between-range : (lo hi n : ℕ) → between lo hi n ≡ true → (lo ≤ n) × (n ≤ hi)
unfolding between
between-range lo hi n t = (leb-true lo n (and_l (leb lo n) (leb n hi) t), leb-true n hi (and_r (leb lo n) (leb n hi) t))

pub range-between : (lo hi n : ℕ) → lo ≤ n → n ≤ hi → between lo hi n ≡ true
unfolding between
range-between lo hi n p q = and_i (leb lo n) (leb n hi) (le-leb lo n p) (le-leb n hi q)

-- ---- kinds
pub copied-no-end : (k : ℕ) → is_copied k ≡ true → is_end k ≡ false
unfolding is_copied is_end is_operation is_subdirectory is_client is_server operation subdirectory client_end server_end
copied-no-end k t = ⊎_elim (λ e. rw (eqb-true k 1 e) refl) (λ e. rw (eqb-true k 2 e) refl) (or_cases (eqb k 1) (eqb k 2) t)

pub subdirectory-no-end : (k : ℕ) → is_subdirectory k ≡ true → is_end k ≡ false
unfolding is_copied
subdirectory-no-end k t = copied-no-end k (or_r (is_operation k) (is_subdirectory k) t)

pub client-is-end : (k : ℕ) → is_client k ≡ true → is_end k ≡ true
unfolding is_end
client-is-end k t = or_l (is_client k) (is_server k) t

-- ---- places
pub node-not-system : (n : ℕ) → is_node n ≡ true → is_system n ≡ false
unfolding is_node is_system nodes with_system
node-not-system n t = let (p, q) = between-range 1 32 n t in ne_eqb n 200 (λ e. omega arith)

pub system-no-node : is_node with_system ≡ false
unfolding is_node with_system between nodes
system-no-node = refl

pub clist-not-node : (p : ℕ) → is_node (in_clist p) ≡ false
unfolding is_node nodes in_clist
clist-not-node p = false_of (between 1 32 (100 + p)) (λ t. let (lo, hi) = between-range 1 32 (100 + p) t in omega arith)

pub clist-no-system : (p : ℕ) → p ≤ 64 → is_system (in_clist p) ≡ false
unfolding is_system in_clist with_system
clist-no-system p hi = ne_eqb (100 + p) 200 (λ z. omega arith)

pub node-in-range : (ps : List Process) (r : Row) → is_node r.place ≡ true → place_in_range ps r ≡ true
unfolding place_in_range
node-in-range ps r t = or_l (is_node r.place) _ t

pub system-in-range : (ps : List Process) (r : Row) → r.place ≡ with_system → place_in_range ps r ≡ true
unfolding place_in_range is_clist is_system with_system between in_clist processes
system-in-range ps r e = rw (e, system-no-node) refl

-- ---- the row that is none
pub clist-no-row : (p : ℕ) → eqb no_row.place (in_clist p) ≡ false
unfolding no_row in_clist
clist-no-row p = ne_eqb 0 (100 + p) (λ e. omega arith)

pub no-row-listed : (v : Request) → may_be_listed v no_row ≡ false
unfolding may_be_listed no_row is_end is_client is_server client_end server_end some
no-row-listed v = refl
