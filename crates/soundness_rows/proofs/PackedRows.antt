-- The word that packs a row: what it tells of a row whose fields are in range, and the words of all rows.
use Rattle.std.proofs.Common.{◌≡◌, ℕ, zero, suc, ◌+◌, ◌*◌, ◌/◌, ◌%◌, ◌<◌, ◌≤◌, Bool, true, false, cond, ◌&&◌, ◌||◌, eqb, leb, List, length, get_or, set, sym, refl, ap, ◌∙◌, ⊎_elim, eq-or-lt_of_le, arith, get_or-set_other, get_or-set_same, eq-eqb, eqb-true, leb-true}
use native.Mathlib.Decide.{dec_lt}
use lib.ListN.{get_or-eq_default}
use Rattle.rows.specs.declared.Row.{Row}
use Rattle.rows.specs.declared.Process.{Process}
use Rattle.rows.specs.Lists.{between, some}
use Rattle.rows.specs.Limits.{nodes, greatest_operation, greatest_depth, all_rights}
use Rattle.rows.specs.Codes.{operation, subdirectory, client_end, server_end, is_operation, is_subdirectory, is_client, is_server, is_end, is_node}
use Rattle.rows.specs.Tables.{no_row, no_process, process_at, is_listed}
use Rattle.rows.specs.Sound.{object_in_range, right_in_range}
use Rattle.rows.specs.Layout.{raw_row}
use Rattle.soundness_rows.specs.vocabulary.Clauses.{own_right}
use Rattle.soundness_rows.specs.vocabulary.Packed.{packed, Packs, PacksRows}
use Rattle.soundness_rows.specs.vocabulary.Seen.{Same, slot_row}
use Rattle.rows.proofs.Bools.{clash, bool_eq, and_l, and_r, and_i, or_cases}

-- ---- the parts of a sum
module _ (a b c d e f : ℕ) (ha : a < 8) (hb : b < 8) (hc : c < 256) (hd : d < 128) (he : e < 2) (hf : f < 16) where
  sum-rights : (a + (8 * b + 64 * c + 16384 * d) + 2097152 * e + 4194304 * f) % 8 ≡ a
  sum-rights = omega arith

  sum-kind : (a + (8 * b + 64 * c + 16384 * d) + 2097152 * e + 4194304 * f) / 8 % 8 ≡ b
  sum-kind = omega arith

  sum-node : (a + (8 * b + 64 * c + 16384 * d) + 2097152 * e + 4194304 * f) / 2097152 % 2 ≡ e
  sum-node = omega arith

  sum-depth : (a + (8 * b + 64 * c + 16384 * d) + 2097152 * e + 4194304 * f) / 4194304 ≡ f
  sum-depth = omega arith

  sum-object : (a + (8 * b + 64 * c + 16384 * d) + 2097152 * e + 4194304 * f) / 8 % 262144 ≡ b + 8 * c + 2048 * d
  sum-object = omega arith

bit-small : (b : Bool) → cond b 1 0 < 2
bit-small true = omega arith
bit-small false = omega arith

bit-told : (b : Bool) → eqb (cond b 1 0) 1 ≡ b
bit-told true = refl
bit-told false = refl

pub packs-if : (r : Row) → r.rights < 8 → r.kind < 8 → r.operation < 256 → r.depth < 16 → (is_end r.kind ≡ false → r.object < 128) → Packs (packed r) r
unfolding packed
packs-if r rights kind operation depth fits =
    let a = r.rights % 8 in
    let b = r.kind % 8 in
    let c = r.operation % 256 in
    let d = r.object % 128 in
    let e : ℕ = cond (is_node r.place) 1 0 in
    let f = r.depth % 16 in
    let ha : a < 8 = omega arith in
    let hb : b < 8 = omega arith in
    let hc : c < 256 = omega arith in
    let hd : d < 128 = omega arith in
    let he : e < 2 = bit-small (is_node r.place) in
    let hf : f < 16 = omega arith in
    record {
      rights = sum-rights a b c d e f ha hb hc hd he hf ∙ omega arith;
      kind = sum-kind a b c d e f ha hb hc hd he hf ∙ omega arith;
      node = ap (λ (k : ℕ). eqb k 1) (sum-node a b c d e f ha hb hc hd he hf) ∙ bit-told (is_node r.place);
      depth = sum-depth a b c d e f ha hb hc hd he hf ∙ omega arith;
      object = sum-object a b c d e f ha hb hc hd he hf ∙ omega arith;
      kind_fits = kind;
      operation-fits = operation;
      object-fits = fits;
    }

pub packs-none : Packs 0 no_row
unfolding no_row is_node between is_end is_client is_server client_end server_end
packs-none =
    record {
      rights = refl;
      kind = refl;
      node = refl;
      depth = refl;
      object = refl;
      kind_fits = omega arith;
      operation-fits = omega arith;
      object-fits = λ e. omega arith;
    }

-- ---- a row whose fields are in range
listed-few : (ps : List Process) (n : ℕ) → is_listed ps n ≡ true → n ≤ length ps
unfolding is_listed process_at no_process some
listed-few ps zero e = omega arith
listed-few ps (suc i) e =
    elim (dec_lt i (length ps)) [
      | yes h ↦ omega arith
      | no h ↦ clash e (ap (λ (x : Process). some x.prime) (get_or-eq_default ps no_process {n = i} (omega arith)))
    ]

-- what packing asks of kind, operation and object, and the object of an end
record Fits (r : Row) : Type 0 where
  kind : r.kind < 8
  operation : r.operation < 256
  object : is_end r.kind ≡ false → r.object < 128
  client : r.kind ≡ 3 → r.object ≡ r.number
  server : r.kind ≡ 4 → suc r.object ≡ r.number

object-fits : (ps : List Process) (r : Row) → length ps ≤ 64 → object_in_range ps r ≡ true → Fits r
unfolding object_in_range is_operation is_subdirectory is_end is_client is_server operation subdirectory client_end server_end between nodes greatest_operation
object-fits ps r few h =
    ⊎_elim op (λ h'. ⊎_elim sub (λ h''. ⊎_elim client server (or_cases _ _ h'')) (or_cases _ _ h')) (or_cases _ _ h)
  where
    op : eqb r.kind 1 && (is_listed ps r.object && leb r.operation 255) ≡ true → Fits r
    op g =
        let k₁ : eqb r.kind 1 ≡ true = search (and_l, and_r) in
        let o₁ : is_listed ps r.object ≡ true = search (and_l, and_r) in
        let w₁ : leb r.operation 255 ≡ true = search (and_l, and_r) in
        let k : r.kind ≡ 1 = eqb-true r.kind 1 k₁ in
        let o : r.object ≤ length ps = listed-few ps r.object o₁ in
        let w : r.operation ≤ 255 = leb-true r.operation 255 w₁ in
        record { kind = omega arith; operation = omega arith; object = λ e. omega arith; client = λ e. absurd (omega arith); server = λ e. absurd (omega arith) }

    sub : eqb r.kind 2 && ((leb 1 r.object && leb r.object 32) && eqb r.operation 0) ≡ true → Fits r
    sub g =
        let k₁ : eqb r.kind 2 ≡ true = search (and_l, and_r) in
        let o₁ : leb r.object 32 ≡ true = search (and_l, and_r) in
        let w₁ : eqb r.operation 0 ≡ true = search (and_l, and_r) in
        let k : r.kind ≡ 2 = eqb-true r.kind 2 k₁ in
        let o : r.object ≤ 32 = leb-true r.object 32 o₁ in
        let w : r.operation ≡ 0 = eqb-true r.operation 0 w₁ in
        record { kind = omega arith; operation = omega arith; object = λ e. omega arith; client = λ e. absurd (omega arith); server = λ e. absurd (omega arith) }

    client : eqb r.kind 3 && (eqb r.object r.number && eqb r.operation 0) ≡ true → Fits r
    client g =
        let k₁ : eqb r.kind 3 ≡ true = search (and_l, and_r) in
        let w₁ : eqb r.operation 0 ≡ true = search (and_l, and_r) in
        let k : r.kind ≡ 3 = eqb-true r.kind 3 k₁ in
        let w : r.operation ≡ 0 = eqb-true r.operation 0 w₁ in
        let end : (eqb r.kind 3 || eqb r.kind 4) ≡ true = rw k refl in
        let o₁ : eqb r.object r.number ≡ true = search (and_l, and_r) in
        record { kind = omega arith; operation = omega arith; object = λ e. clash end e; client = λ e. eqb-true r.object r.number o₁; server = λ e. absurd (omega arith) }

    server : eqb r.kind 4 && (eqb (suc r.object) r.number && eqb r.operation 0) ≡ true → Fits r
    server g =
        let k₁ : eqb r.kind 4 ≡ true = search (and_l, and_r) in
        let w₁ : eqb r.operation 0 ≡ true = search (and_l, and_r) in
        let k : r.kind ≡ 4 = eqb-true r.kind 4 k₁ in
        let w : r.operation ≡ 0 = eqb-true r.operation 0 w₁ in
        let end : (eqb r.kind 3 || eqb r.kind 4) ≡ true = rw k refl in
        let o₁ : eqb (suc r.object) r.number ≡ true = search (and_l, and_r) in
        record { kind = omega arith; operation = omega arith; object = λ e. clash end e; client = λ e. absurd (omega arith); server = λ e. eqb-true (suc r.object) r.number o₁ }

right-fits : (r : Row) → right_in_range r ≡ true → r.rights < 8
unfolding right_in_range all_rights
right-fits r h = pick (is_end r.kind) (leb-true r.rights (cond (is_end r.kind) 0 7) h)
  where
    pick : (b : Bool) → r.rights ≤ cond b 0 7 → r.rights < 8
    pick true g = omega arith
    pick false g = omega arith

pub packs-own : (ps : List Process) (r : Row) → length ps ≤ 64 → own_right ps r ≡ true → Packs (packed r) r
unfolding own_right greatest_depth
packs-own ps r few h =
    let object : object_in_range ps r ≡ true = search (and_l, and_r) in
    let right : right_in_range r ≡ true = search (and_l, and_r) in
    let depth : leb r.depth 12 ≡ true = search (and_l, and_r) in
    let fits = object-fits ps r few object in
    let deep : r.depth ≤ 12 = leb-true r.depth 12 depth in
    packs-if r (right-fits r right) fits.kind fits.operation (omega arith) fits.object

pub ports-own : (ps : List Process) (r : Row) → length ps ≤ 64 → own_right ps r ≡ true
    → (r.kind ≡ 3 → r.object ≡ r.number) × (r.kind ≡ 4 → suc r.object ≡ r.number)
unfolding own_right
ports-own ps r few h =
    let object : object_in_range ps r ≡ true = search (and_l, and_r) in
    let fits = object-fits ps r few object in
    (fits.client, fits.server)

-- ---- two rows
pub packed-same : (x y : Row) → Same x y → packed x ≡ packed y
unfolding packed
packed-same x y s = rw (s.rights, s.kind, s.operation, s.object, s.place, s.depth) refl

module _ (k o m l p q : ℕ) (hk : k < 8) (hl : l < 8) (e : k + 8 * o + 2048 * m ≡ l + 8 * p + 2048 * q) where
  kinds : k ≡ l
  kinds = omega arith

  operations : o < 256 → p < 256 → o ≡ p
  operations ho hp = let h : o + 256 * m ≡ p + 256 * q = omega (arith, kinds) in omega (arith, h, ho, hp)

  objects : o < 256 → p < 256 → m ≡ q
  objects ho hp = omega (arith, kinds, operations ho hp)

pub object-same : (a b : ℕ) (y z : Row) → Packs a y → Packs b z → is_end y.kind ≡ false
    → eqb (a / 8 % 262144) (b / 8 % 262144) ≡ (eqb y.kind z.kind && (eqb y.object z.object && eqb y.operation z.operation))
object-same a b y z p q e = bool_eq (eqb (a / 8 % 262144) (b / 8 % 262144)) (eqb y.kind z.kind && (eqb y.object z.object && eqb y.operation z.operation)) to from
  where
    to : eqb (a / 8 % 262144) (b / 8 % 262144) ≡ true → eqb y.kind z.kind && (eqb y.object z.object && eqb y.operation z.operation) ≡ true
    to h =
        let sum : y.kind + 8 * y.operation + 2048 * (y.object % 128) ≡ z.kind + 8 * z.operation + 2048 * (z.object % 128)
        = sym p.object ∙ eqb-true (a / 8 % 262144) (b / 8 % 262144) h ∙ q.object in
        let k = kinds y.kind y.operation (y.object % 128) z.kind z.operation (z.object % 128) p.kind_fits q.kind_fits sum in
        let o = operations y.kind y.operation (y.object % 128) z.kind z.operation (z.object % 128) p.kind_fits q.kind_fits sum p.operation-fits q.operation-fits in
        let m = objects y.kind y.operation (y.object % 128) z.kind z.operation (z.object % 128) p.kind_fits q.kind_fits sum p.operation-fits q.operation-fits in
        let same = whole y.object z.object (p.object-fits e) (q.object-fits (ap is_end (sym k) ∙ e)) m in
        and_i (eqb y.kind z.kind) (eqb y.object z.object && eqb y.operation z.operation) (eq-eqb y.kind z.kind k)
        (and_i (eqb y.object z.object) (eqb y.operation z.operation) (eq-eqb y.object z.object same) (eq-eqb y.operation z.operation o))
      where
        whole : (m n : ℕ) → m < 128 → n < 128 → m % 128 ≡ n % 128 → m ≡ n
        whole m n hm hn d = omega arith

    from : eqb y.kind z.kind && (eqb y.object z.object && eqb y.operation z.operation) ≡ true → eqb (a / 8 % 262144) (b / 8 % 262144) ≡ true
    from h =
        let k₁ : eqb y.kind z.kind ≡ true = search (and_l, and_r) in
        let m₁ : eqb y.object z.object ≡ true = search (and_l, and_r) in
        let o₁ : eqb y.operation z.operation ≡ true = search (and_l, and_r) in
        let k : y.kind ≡ z.kind = eqb-true y.kind z.kind k₁ in
        let m : y.object ≡ z.object = eqb-true y.object z.object m₁ in
        let o : y.operation ≡ z.operation = eqb-true y.operation z.operation o₁ in
        eq-eqb (a / 8 % 262144) (b / 8 % 262144) (p.object ∙ (λ i. k i + 8 * o i + 2048 * (m i % 128)) ∙ sym q.object)

-- ---- the words of all rows
pub packs-start : (t l : List ℕ) → get_or l 0 0 ≡ 0 → PacksRows t 0 l
packs-start t l e = record { none = e; at = λ i h. absurd (omega arith) }

pub packs-more : (t l : List ℕ) (i : ℕ) → i + 1 < length l → PacksRows t i l → PacksRows t (i + 1) (set l (i + 1) (packed (raw_row t i)))
packs-more t l i long p =
    record {
      none = get_or-set_other l (i + 1) 0 (packed (raw_row t i)) 0 (λ e. omega arith) ∙ p.none;
      at =
          λ k h.
          ⊎_elim (λ e. ap (λ (j : ℕ). get_or (set l (i + 1) (packed (raw_row t i))) j 0) (omega arith) ∙ get_or-set_same l (i + 1) (packed (raw_row t i)) 0 long ∙ ap (λ (j : ℕ). packed (raw_row t j)) (sym e))
          (λ lt. get_or-set_other l (i + 1) (suc k) (packed (raw_row t i)) 0 (λ e. omega arith) ∙ p.at k lt)
          (eq-or-lt_of_le (let g : k ≤ i = omega arith in g));
    }

pub packs-slot : (t l : List ℕ) (n k : ℕ) → PacksRows t n l → k ≤ n → get_or l k 0 ≡ packed (slot_row t k)
unfolding slot_row packed no_row is_node between
packs-slot t l n zero p h = p.none
packs-slot t l n (suc i) p h = p.at i (omega arith)
