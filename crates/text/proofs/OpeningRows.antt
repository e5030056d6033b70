-- The rows of the state that an opening text opens: numbered from 1 on, each an opening row of a fit entry.
use Prim.Native.Nat.{ℕ, suc, ◌+◌}
use native.Mathlib.Omega.{arith}
use mathlib.Core.Path.{◌≡◌, refl, ap}
use mathlib.Core.Bool.{Bool, true, false, cond, ◌&&◌, ◌||◌}
use mathlib.Core.List.{List, [], ◌∷◌}
use mathlib.Core.Logic.{◌⊎◌, inl, inr}
use lib.ListN.{length}
use lib.Dec.{leb, ltb, eqb}
use borrow.Author.Tests.{eqb-true, eq-eqb, lt-ltb}
use Rattle.rows.specs.declared.Row.{Row}
use Rattle.rows.specs.Lists.{any, all, each, top_of, rises, between}
use Rattle.rows.specs.Limits.{processes, nodes, greatest_operation, all_rights}
use Rattle.rows.specs.Codes.{is_operation, is_subdirectory, is_end, is_copied}
use Rattle.rows.specs.Tables.{empty}
use Rattle.rows.proofs.Bools.{and_l, and_r, and_i, or_l, or_r, all-and}
use Rattle.rows.proofs.Places.{copied-no-end}
use Rattle.text.specs.declared.Entry.{Entry}
use Rattle.text.specs.Opening.{Form, node_form, process_form, entry_ranged, gives_node, gives_process, entry_listed, form_listed, entry_row, with_entries, with_form, opened_from}
use Rattle.text.proofs.OpeningForms.{entry_shaped, form_passed, Good, NodePassed, node-passed}

-- ---- numbers: each row's is 1 more than the count of those older
unfoldable pub counted : Row → List Row → Bool
counted r rs = eqb r.number (suc (length rs))

pub entries-length : (es : List Entry) (n m : ℕ) (rs : List Row) → length (with_entries n m es rs) ≡ length rs + length es
unfolding with_entries
entries-length [] n m rs = omega arith
entries-length (e ∷ es) n m rs =
    let h : length (with_entries (suc n) m es (entry_row n m e ∷ rs)) ≡ suc (length rs) + length es = entries-length es (suc n) m (entry_row n m e ∷ rs) in
    omega arith

entries-counted : (es : List Entry) (n m : ℕ) (rs : List Row) → n ≡ suc (length rs) → each counted rs ≡ true → each counted (with_entries n m es rs) ≡ true
unfolding with_entries each counted entry_row
entries-counted [] n m rs q h = h
entries-counted (e ∷ es) n m rs q h = entries-counted es (suc n) m (entry_row n m e ∷ rs) (ap suc q) (rw (eq-eqb n (suc (length rs)) q) h)

pub opened-next : (fs : List Form) → (opened_from empty fs).next ≡ suc (length (opened_from empty fs).rows)
unfolding opened_from with_form empty
opened-next [] = refl
opened-next (node_form n es ∷ fs) = let h = opened-next fs in let l = entries-length es (opened_from empty fs).next n (opened_from empty fs).rows in omega arith
opened-next (process_form p n ∷ fs) = opened-next fs

pub opened-counted : (fs : List Form) → each counted (opened_from empty fs).rows ≡ true
unfolding opened_from with_form empty each
opened-counted [] = refl
opened-counted (node_form n es ∷ fs) = entries-counted es (opened_from empty fs).next n (opened_from empty fs).rows (opened-next fs) (opened-counted fs)
opened-counted (process_form p n ∷ fs) = opened-counted fs

pub counted-top : (rs : List Row) → each counted rs ≡ true → top_of (λ r. r.number) rs ≡ length rs
unfolding each counted top_of
counted-top [] h = refl
counted-top (r ∷ rs) h = eqb-true r.number (suc (length rs)) (and_l (counted r rs) (each counted rs) h)

pub counted-rises : (rs : List Row) → each counted rs ≡ true → rises (λ r. r.number) rs ≡ true
unfolding each rises top_of
counted-rises [] h = refl
counted-rises (r ∷ rs) h =
    let older : each counted rs ≡ true = and_r (counted r rs) (each counted rs) h in
    let t = counted-top rs older in
    let k : r.number ≡ suc (length rs) = counted-top (r ∷ rs) h in
    and_i (ltb (top_of (λ r. r.number) rs) r.number) (rises (λ r. r.number) rs) (lt-ltb (top_of (λ r. r.number) rs) r.number (omega arith)) (counted-rises rs older)

-- ---- what holds of the rows of all fit entries holds of all rows
-- an entry of the shape read, in range, with what it names among the forms fs
unfoldable pub entry_fit : List Form → Entry → Bool
entry_fit fs e = entry_shaped e && (entry_ranged e && entry_listed fs e)

unfoldable entries_fit : List Form → Form → Bool
entries_fit fs (node_form n es) = between 1 nodes n && all (entry_fit fs) es
entries_fit fs (process_form p n) = true

forms-fit : (fs gs : List Form) → each form_passed gs ≡ true → all (form_listed fs) gs ≡ true → all (entries_fit fs) gs ≡ true
unfolding each all entries_fit form_listed entry_fit
forms-fit fs [] p l = refl
forms-fit fs (node_form n es ∷ gs) p l =
    let k : NodePassed gs n es = node-passed gs n es (and_l (form_passed (node_form n es) gs) (each form_passed gs) p) in
    let listed : all (entry_listed fs) es ≡ true = and_l (all (entry_listed fs) es) (all (form_listed fs) gs) l in
    let both = all-and entry_ranged (entry_listed fs) (λ e. entry_ranged e && entry_listed fs e) (λ e a b. and_i (entry_ranged e) (entry_listed fs e) a b) es k.ranged listed in
    let fit = all-and entry_shaped (λ e. entry_ranged e && entry_listed fs e) (entry_fit fs) (λ e a b. and_i (entry_shaped e) (entry_ranged e && entry_listed fs e) a b) es k.shaped both in
    and_i (between 1 nodes n && all (entry_fit fs) es) (all (entries_fit fs) gs) (and_i (between 1 nodes n) (all (entry_fit fs) es) k.node fit)
    (forms-fit fs gs (and_r (form_passed (node_form n es) gs) (each form_passed gs) p) (and_r (all (entry_listed fs) es) (all (form_listed fs) gs) l))
forms-fit fs (process_form q n ∷ gs) p l =
    forms-fit fs gs (and_r (form_passed (process_form q n) gs) (each form_passed gs) p) (and_r (form_listed fs (process_form q n)) (all (form_listed fs) gs) l)

module _ (fs : List Form) (test : Row → Bool) (holds : (n m : ℕ) (e : Entry) → between 1 nodes m ≡ true → entry_fit fs e ≡ true → test (entry_row n m e) ≡ true) where
  entries-all : (es : List Entry) (n m : ℕ) (rs : List Row) → between 1 nodes m ≡ true → all (entry_fit fs) es ≡ true → all test rs ≡ true → all test (with_entries n m es rs) ≡ true
  unfolding with_entries all
  entries-all [] n m rs b f h = h
  entries-all (e ∷ es) n m rs b f h =
      entries-all es (suc n) m (entry_row n m e ∷ rs) b (and_r (entry_fit fs e) (all (entry_fit fs) es) f)
      (and_i (test (entry_row n m e)) (all test rs) (holds n m e b (and_l (entry_fit fs e) (all (entry_fit fs) es) f)) h)

  forms-all : (gs : List Form) → all (entries_fit fs) gs ≡ true → all test (opened_from empty gs).rows ≡ true
  unfolding opened_from with_form empty all entries_fit
  forms-all [] f = refl
  forms-all (node_form n es ∷ gs) f =
      let k = and_l (between 1 nodes n && all (entry_fit fs) es) (all (entries_fit fs) gs) f in
      entries-all es (opened_from empty gs).next n (opened_from empty gs).rows (and_l (between 1 nodes n) (all (entry_fit fs) es) k) (and_r (between 1 nodes n) (all (entry_fit fs) es) k)
      (forms-all gs (and_r (between 1 nodes n && all (entry_fit fs) es) (all (entries_fit fs) gs) f))
  forms-all (process_form p n ∷ gs) f = forms-all gs f

  pub opened-all : Good fs → all test (opened_from empty fs).rows ≡ true
  opened-all g = forms-all fs (forms-fit fs fs g.passed g.listed)

-- ---- a fit entry names a listed manager and an operation, or a node
pub record OfOperation (fs : List Form) (e : Entry) : Type 0 where
  pub kind : is_operation e.kind ≡ true
  pub manager : between 1 processes e.object ≡ true
  pub listed : any (gives_process e.object) fs ≡ true
  pub ranged : leb e.operation greatest_operation ≡ true

pub record OfSubdirectory (e : Entry) : Type 0 where
  pub kind : is_subdirectory e.kind ≡ true
  pub node : between 1 nodes e.object ≡ true
  pub none : eqb e.operation 0 ≡ true

pub fit-cases : (fs : List Form) (e : Entry) → entry_fit fs e ≡ true → OfOperation fs e ⊎ OfSubdirectory e
unfolding entry_fit entry_shaped entry_ranged entry_listed
fit-cases fs e h = pick (is_operation e.kind) refl h
  where
    pick : (b : Bool) → is_operation e.kind ≡ b
        → (b || (is_subdirectory e.kind && eqb e.operation 0)) &&
        ((leb e.rights all_rights && cond b (between 1 processes e.object && leb e.operation greatest_operation)
        (between 1 nodes e.object)) && cond b (any (gives_process e.object) fs) (any (gives_node e.object) fs)) ≡ true
        → OfOperation fs e ⊎ OfSubdirectory e
    pick true q h =
        let r = leb e.rights all_rights in
        let op = between 1 processes e.object && leb e.operation greatest_operation in
        let o : between 1 processes e.object && leb e.operation greatest_operation ≡ true = and_r r op (and_l (r && op) (any (gives_process e.object) fs) h) in
        inl (record { kind = q; manager = search and_l; listed = search (and_l, and_r); ranged = search (and_l, and_r) })
    pick false q h = inr (record { kind = search (and_l, and_r); node = search (and_l, and_r); none = search (and_l, and_r) })

pub fit-rights : (fs : List Form) (e : Entry) → entry_fit fs e ≡ true → leb e.rights all_rights ≡ true
unfolding entry_fit entry_ranged
fit-rights fs e h = search (and_l, and_r)

pub fit-copied : (fs : List Form) (e : Entry) → entry_fit fs e ≡ true → is_copied e.kind ≡ true
unfolding is_copied
fit-copied fs e h =
    elim (fit-cases fs e h) [
      | inl o ↦ or_l (is_operation e.kind) (is_subdirectory e.kind) o.kind
      | inr s ↦ or_r (is_operation e.kind) (is_subdirectory e.kind) s.kind
    ]

pub fit-no-end : (fs : List Form) (e : Entry) → entry_fit fs e ≡ true → is_end e.kind ≡ false
fit-no-end fs e h = copied-no-end e.kind (fit-copied fs e h)
