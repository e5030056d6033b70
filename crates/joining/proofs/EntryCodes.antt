-- An entry in a word: it is read back, and equal entries have equal codes.
use Prim.Native.Nat.{ℕ, ◌+◌, ◌*◌, ◌/◌, ◌%◌, ◌<◌}
use native.Mathlib.Omega.{arith}
use mathlib.Core.Bool.{Bool, true, false, ◌&&◌, ◌||◌, cond}
use mathlib.Core.Path.{◌≡◌, refl, sym, ap, ◌∙◌}
use lib.Dec.{leb, eqb}
use borrow.Author.Tests.{leb-true, eqb-true, eq-eqb}
use Rattle.rows.specs.Lists.{between}
use Rattle.rows.specs.Limits.{processes, nodes, greatest_operation, all_rights}
use Rattle.rows.specs.Codes.{operation, subdirectory, is_operation, is_subdirectory}
use Rattle.rows.proofs.Bools.{and_l, and_r, and_i, bool_eq}
use Rattle.rows.proofs.Places.{between-range}
use Rattle.text.specs.declared.Entry.{Entry}
use Rattle.text.specs.Opening.{entry_ranged}
use Rattle.text.proofs.OpeningForms.{entry_shaped}
use Rattle.joining.specs.Joins.{same_entry}
use Rattle.joining.specs.vocabulary.Directories.{EntryFits, entry_code, entry_of}
use Rattle.joining.specs.vocabulary.Lines.{CODE-LIMIT}

-- ---- read back
pub code-back : (e : Entry) → EntryFits e → entry_of (entry_code e) ≡ e
unfolding entry_of entry_code
code-back e (o, p, r, k) =
    let kind : (((e.object * 256 + e.operation) * 8 + e.rights) * 4 + e.kind) % 4 ≡ e.kind = omega arith in
    let object : (((e.object * 256 + e.operation) * 8 + e.rights) * 4 + e.kind) / 8192 ≡ e.object = omega arith in
    let upper : (((e.object * 256 + e.operation) * 8 + e.rights) * 4 + e.kind) / 32 ≡ e.object * 256 + e.operation = omega arith in
    let operation : (e.object * 256 + e.operation) % 256 ≡ e.operation = omega arith in
    let middle : (((e.object * 256 + e.operation) * 8 + e.rights) * 4 + e.kind) / 4 ≡ (e.object * 256 + e.operation) * 8 + e.rights = omega arith in
    let rights : ((e.object * 256 + e.operation) * 8 + e.rights) % 8 ≡ e.rights = omega arith in
    λ i. record {
      kind = kind i;
      object = object i;
      operation = (ap (λ (x : ℕ). x % 256) upper ∙ operation) i;
      rights = (ap (λ (x : ℕ). x % 8) middle ∙ rights) i;
    }

pub code_fits : (x : ℕ) → x < CODE-LIMIT → EntryFits (entry_of x)
unfolding entry_of
code_fits x h = (omega arith, omega arith, omega arith, omega arith)

-- ---- what is in range has room
pub ranged-fits : (e : Entry) → entry_ranged e ≡ true → entry_shaped e ≡ true → EntryFits e
unfolding entry_ranged entry_shaped is_operation is_subdirectory operation subdirectory all_rights greatest_operation processes nodes
ranged-fits e r s = pick (eqb e.kind 1) refl r s
  where
    rights : leb e.rights 7 ≡ true → e.rights < 8
    rights h = let l = leb-true e.rights 7 h in omega arith

    pick : (b : Bool) → eqb e.kind 1 ≡ b
        → leb e.rights 7 && cond b (between 1 64 e.object && leb e.operation 255) (between 1 32 e.object) ≡ true
        → b || (eqb e.kind 2 && eqb e.operation 0) ≡ true → EntryFits e
    pick true q h s =
        let both = and_r (leb e.rights 7) _ h in
        let (lo, hi) = between-range 1 64 e.object (and_l (between 1 64 e.object) (leb e.operation 255) both) in
        let most = leb-true e.operation 255 (and_r (between 1 64 e.object) (leb e.operation 255) both) in
        let kind = eqb-true e.kind 1 q in
        (omega arith, omega arith, rights (and_l (leb e.rights 7) _ h), omega arith)
    pick false q h s =
        let (lo, hi) = between-range 1 32 e.object (and_r (leb e.rights 7) _ h) in
        let kind = eqb-true e.kind 2 (and_l (eqb e.kind 2) (eqb e.operation 0) s) in
        let none = eqb-true e.operation 0 (and_r (eqb e.kind 2) (eqb e.operation 0) s) in
        (omega arith, omega arith, rights (and_l (leb e.rights 7) _ h), omega arith)

-- ---- equal entries
pub same_code : (d e : Entry) → EntryFits d → EntryFits e → same_entry d e ≡ eqb (entry_code d) (entry_code e)
unfolding same_entry
same_code d e fd fe = bool_eq (same_entry d e) (eqb (entry_code d) (entry_code e)) (λ h. eq-eqb (entry_code d) (entry_code e) (ap entry_code (is h))) back
  where
    is : same_entry d e ≡ true → d ≡ e
    is h =
        let rest = and_r (eqb d.kind e.kind) _ h in
        let last = and_r (eqb d.object e.object) _ rest in
        let kind = eqb-true d.kind e.kind (and_l (eqb d.kind e.kind) _ h) in
        let object = eqb-true d.object e.object (and_l (eqb d.object e.object) _ rest) in
        let operation = eqb-true d.operation e.operation (and_l (eqb d.operation e.operation) (eqb d.rights e.rights) last) in
        let rights = eqb-true d.rights e.rights (and_r (eqb d.operation e.operation) (eqb d.rights e.rights) last) in
        λ i. record { kind = kind i; object = object i; operation = operation i; rights = rights i }

    back : eqb (entry_code d) (entry_code e) ≡ true → same_entry d e ≡ true
    back h =
        let q : d ≡ e = sym (code-back d fd) ∙ ap entry_of (eqb-true (entry_code d) (entry_code e) h) ∙ code-back e fe in
        and_i (eqb d.kind e.kind) _ (eq-eqb d.kind e.kind (ap (λ (x : Entry). x.kind) q))
        (and_i (eqb d.object e.object) _ (eq-eqb d.object e.object (ap (λ (x : Entry). x.object) q))
        (and_i (eqb d.operation e.operation) (eqb d.rights e.rights) (eq-eqb d.operation e.operation (ap (λ (x : Entry). x.operation) q))
        (eq-eqb d.rights e.rights (ap (λ (x : Entry). x.rights) q))))
