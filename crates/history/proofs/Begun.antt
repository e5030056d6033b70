-- The history begins with the rows that the opening text opens, numbered as there.
use Prim.Native.Nat.{ℕ, suc}
use native.Mathlib.Omega.{arith}
use mathlib.Core.Bool.{true, false, ◌&&◌}
use mathlib.Core.List.{List, [], ◌∷◌, map}
use mathlib.Core.Path.{◌≡◌, refl, ap, ◌∙◌}
use lib.ListN.{length}
use lib.Dec.{eqb}
use borrow.Author.Tests.{eqb-true}
use Rattle.rows.specs.declared.Row.{Row}
use Rattle.rows.specs.Lists.{all, each, filter, nonzero, some}
use Rattle.rows.specs.Codes.{is_end, is_copied, is_node}
use Rattle.rows.specs.Tables.{empty, numbers, sources}
use Rattle.rows.specs.Sound.{is_opening}
use Rattle.rows.proofs.Bools.{and_l, and_r}
use Rattle.rows.proofs.Places.{copied-no-end}
use Rattle.text.specs.Opening.{Form, node_form, process_form, opens, opening_of, with_form, opened_from}
use Rattle.text.specs.Entry.{state_opened}
use Rattle.text.proofs.OpeningForms.{opening-good}
use Rattle.text.proofs.OpeningRows.{counted, entries-length, opened-next as next-is, opened-counted}
use Rattle.text.proofs.Opening.{opened-opening}
use Rattle.history.specs.Reading.{entry_count, down_from, text_rows}
use Rattle.history.proofs.Inv.{view}

-- ---- how many, and their numbers
opened-count : (fs : List Form) → length (opened_from empty fs).rows ≡ entry_count fs
unfolding opened_from with_form empty entry_count
opened-count [] = refl
opened-count (node_form n es ∷ fs) = let h = opened-count fs in let l = entries-length es (opened_from empty fs).next n (opened_from empty fs).rows in omega arith
opened-count (process_form p n ∷ fs) = opened-count fs

counted-down : (rs : List Row) → each counted rs ≡ true → numbers rs ≡ down_from (length rs)
unfolding each counted numbers down_from
counted-down [] e = refl
counted-down (r ∷ rs) e =
    rw (eqb-true r.number (suc (length rs)) (and_l (counted r rs) (each counted rs) e), counted-down rs (and_r (counted r rs) (each counted rs) e)) refl

opened-numbers : (fs : List Form) → numbers (state_opened fs).rows ≡ down_from (entry_count fs)
unfolding state_opened
opened-numbers fs = counted-down (opened_from empty fs).rows (opened-counted fs) ∙ ap down_from (opened-count fs)

pub opened-next : (fs : List Form) → (state_opened fs).next ≡ suc (entry_count fs)
unfolding state_opened
opened-next fs = next-is fs ∙ ap suc (opened-count fs)

-- ---- as the history notes them: with no source, bearing no request, no ends
view-opening : (r : Row) → is_opening r ≡ true → view r ≡ record { number = r.number; sources = []; request = 0; port = 0 }
unfolding view is_opening sources nonzero filter some
view-opening r h =
    let h1 = and_r (is_node r.place) (is_copied r.kind && (eqb r.source 0 && (eqb r.via 0 && eqb r.request 0))) h in
    let h2 = and_r (is_copied r.kind) (eqb r.source 0 && (eqb r.via 0 && eqb r.request 0)) h1 in
    let h3 = and_r (eqb r.source 0) (eqb r.via 0 && eqb r.request 0) h2 in
    let s : r.source ≡ 0 = eqb-true r.source 0 (and_l (eqb r.source 0) (eqb r.via 0 && eqb r.request 0) h2) in
    let v : r.via ≡ 0 = eqb-true r.via 0 (and_l (eqb r.via 0) (eqb r.request 0) h3) in
    let q : r.request ≡ 0 = eqb-true r.request 0 (and_r (eqb r.via 0) (eqb r.request 0) h3) in
    let e : is_end r.kind ≡ false = copied-no-end r.kind (and_l (is_copied r.kind) (eqb r.source 0 && (eqb r.via 0 && eqb r.request 0)) h1) in
    rw (s, v, q, e) refl

views-opening : (rs : List Row) → all is_opening rs ≡ true → map view rs ≡ text_rows (numbers rs)
unfolding all numbers text_rows
views-opening [] e = refl
views-opening (r ∷ rs) e = rw (view-opening r (and_l (is_opening r) (all is_opening rs) e), views-opening rs (and_r (is_opening r) (all is_opening rs) e)) refl

pub begun-rows : (ls rest : List (List ℕ)) (fs : List Form) → opening_of ls ≡ opens fs rest → map view (state_opened fs).rows ≡ text_rows (down_from (entry_count fs))
unfolding state_opened
begun-rows ls rest fs e = views-opening (opened_from empty fs).rows (opened-opening fs (opening-good ls rest fs e)) ∙ ap text_rows (opened-numbers fs)
