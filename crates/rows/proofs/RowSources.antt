-- What soundness says of one row's sources: each is 0 or the number of an older row.
use Rattle.std.proofs.Common.{◌≡◌, ℕ, Bool, true, false, ◌||◌, eqb, ◌⊎◌, List, refl, inl, inr, ⊎_elim, eqb-true}
use Rattle.rows.specs.declared.Row.{Row}
use Rattle.rows.specs.declared.Request.{Request}
use Rattle.rows.specs.Lists.{member, between}
use Rattle.rows.specs.Codes.{operation, subdirectory, client_end, server_end, is_operation, is_subdirectory, is_client, is_server, is_end, is_copied, is_node}
use Rattle.rows.specs.Tables.{no_row, row_of, numbers}
use Rattle.rows.specs.Sound.{is_opening, is_registered, is_held, is_port_end, is_lent_copy, has_right_sources, source_of, via_of}
use Rattle.rows.proofs.Bools.{and_l, and_r, or_cases}
use Rattle.rows.proofs.Keyed.{first-there}

-- 0, or the number of one of these rows
abbrev pub Among : List Row → ℕ → Type 0
Among rs n = (n ≡ 0) ⊎ (member n (numbers rs) ≡ true)

-- a row that passes a test that none fails is there
pub row-there : (P : Row → Bool) → P no_row ≡ false → (rs : List Row) (n : ℕ) → P (row_of rs n) ≡ true → member n (numbers rs) ≡ true
unfolding row_of numbers
row-there P z rs n e = first-there (λ r. r.number) no_row P z rs n e

pub node-there : (rs : List Row) (n : ℕ) → is_node (row_of rs n).place ≡ true → member n (numbers rs) ≡ true
unfolding no_row is_node between
node-there = row-there (λ r. is_node r.place) refl

-- by its kind: that of none is 0
kind-there : (P : ℕ → Bool) → P 0 ≡ false → (rs : List Row) (n : ℕ) → P (row_of rs n).kind ≡ true → member n (numbers rs) ≡ true
unfolding no_row
kind-there P z = row-there (λ r. P r.kind) z

pub end-there : (rs : List Row) (n : ℕ) → is_end (row_of rs n).kind ≡ true → member n (numbers rs) ≡ true
unfolding is_end is_client is_server client_end server_end
end-there = kind-there is_end refl

operation-there : (rs : List Row) (n : ℕ) → is_operation (row_of rs n).kind ≡ true → member n (numbers rs) ≡ true
unfolding is_operation operation
operation-there = kind-there is_operation refl

pub subdirectory-there : (rs : List Row) (n : ℕ) → is_subdirectory (row_of rs n).kind ≡ true → member n (numbers rs) ≡ true
unfolding is_subdirectory subdirectory
subdirectory-there = kind-there is_subdirectory refl

pub client-there : (rs : List Row) (n : ℕ) → is_client (row_of rs n).kind ≡ true → member n (numbers rs) ≡ true
unfolding is_client client_end
client-there = kind-there is_client refl

copied-there : (rs : List Row) (n : ℕ) → is_copied (row_of rs n).kind ≡ true → member n (numbers rs) ≡ true
unfolding is_copied is_operation operation is_subdirectory subdirectory
copied-there = kind-there is_copied refl

-- the five shapes of a row with source s and second source v, as cases
pub data Shape (vs : List Request) (r s v : Row) : Type 0 where
  opening : is_opening r ≡ true → Shape vs r s v
  registered : is_registered r s ≡ true → Shape vs r s v
  held : is_held r s v ≡ true → Shape vs r s v
  port-end : is_port_end r s ≡ true → Shape vs r s v
  lent-copy : is_lent_copy vs r s v ≡ true → Shape vs r s v

pub shape : (vs : List Request) (r s v : Row) → has_right_sources vs r s v ≡ true → Shape vs r s v
unfolding has_right_sources
shape vs r s v e =
    ⊎_elim opening
    (λ e. ⊎_elim registered
    (λ e. ⊎_elim held
    (λ e. ⊎_elim port-end lent-copy (or_cases (is_port_end r s) (is_lent_copy vs r s v) e))
    (or_cases (is_held r s v) _ e))
    (or_cases (is_registered r s) _ e))
    (or_cases (is_opening r) _ e)

pub shape-sources : (vs : List Request) (r : Row) (rs : List Row) → Shape vs r (source_of rs r) (via_of rs r) → Among rs r.source × Among rs r.via
unfolding is_opening is_registered is_held is_port_end is_lent_copy
shape-sources vs r rs (opening e) =
    let s : eqb r.source 0 ≡ true = search (and_l, and_r) in
    let v : eqb r.via 0 ≡ true = search (and_l, and_r) in
    (inl (eqb-true r.source 0 s), inl (eqb-true r.via 0 v))
shape-sources vs r rs (registered e) =
    let s : is_node (row_of rs r.source).place ≡ true = search (and_l, and_r) in
    let v : eqb r.via 0 ≡ true = search (and_l, and_r) in
    (inr (node-there rs r.source s), inl (eqb-true r.via 0 v))
shape-sources vs r rs (held e) =
    let s : is_node (row_of rs r.source).place ≡ true = search (and_l, and_r) in
    let v : eqb r.via 0 || is_subdirectory (row_of rs r.via).kind ≡ true = search (and_l, and_r) in
    let either = or_cases (eqb r.via 0) (is_subdirectory (row_of rs r.via).kind) v in
    (inr (node-there rs r.source s), ⊎_elim (λ z. inl (eqb-true r.via 0 z)) (λ z. inr (subdirectory-there rs r.via z)) either)
shape-sources vs r rs (port-end e) =
    let s : is_operation (row_of rs r.source).kind ≡ true = search (and_l, and_r) in
    let v : eqb r.via 0 ≡ true = search (and_l, and_r) in
    (inr (operation-there rs r.source s), inl (eqb-true r.via 0 v))
shape-sources vs r rs (lent-copy e) =
    let s : is_copied (row_of rs r.source).kind ≡ true = search (and_l, and_r) in
    let v : is_client (row_of rs r.via).kind ≡ true = search (and_l, and_r) in
    (inr (copied-there rs r.source s), inr (client-there rs r.via v))
