-- An accepted opening text opens sound tables; so are the empty tables.
use Prim.Native.Nat.{ℕ, suc}
use native.Mathlib.Omega.{arith}
use mathlib.Core.Path.{◌≡◌, refl, sym, subst}
use mathlib.Core.Bool.{Bool, true, ◌&&◌}
use mathlib.Core.List.{List, [], ◌∷◌, map}
use mathlib.Core.Logic.{inl, inr}
use lib.ListN.{length}
use lib.Dec.{leb, eqb}
use borrow.Author.Tests.{eqb-true, eq-eqb, lt-ltb, le-leb}
use Rattle.rows.specs.declared.Row.{Row}
use Rattle.rows.specs.declared.Process.{Process}
use Rattle.rows.specs.Lists.{all, each, top_of, rises, member, distinct, between}
use Rattle.rows.specs.Limits.{processes, nodes, greatest_operation, greatest_number, row_slots, request_slots, greatest_depth}
use Rattle.rows.specs.Codes.{is_operation, in_node, is_node, is_system}
use Rattle.rows.specs.Tables.{no_row, empty, row_of, is_listed}
use Rattle.rows.specs.Sound.{rows_rise, requests_rise, numbers_apart, below_next, next_in_range, rows_fit, requests_fit, records_fit, object_in_range, objects_in_range, right_in_range, rights_in_range, place_in_range, places_in_range, fetched_in_range, is_opening, sources_right, depth_right, depths_right, copies_match, record_in_range, records_in_range, end_paired, ends_paired, ports_stand, requesters_listed, items_few, items_apart, items_lent, one_per_port, copy_listed, copies_listed, older_fetched, awaits_fetch, same, system_holds, processes_placed, has_right_sources, has_right_depth, matches_source, sourced, source_of, via_of}
use Rattle.rows.proofs.Bools.{false_of, and_l, and_r, and_i, or_l, or_r, all-mono}
use Rattle.rows.proofs.Keyed.{first-none, rises-range}
use Rattle.tables.proofs.Sound.{Numbers, RowsSound, LoansSound, HoldersSound, ProcessesSound, Sound}
use Rattle.rows.proofs.Places.{range-between, node-not-system}
use Rattle.text.specs.declared.Entry.{Entry}
use Rattle.text.specs.Opening.{Form, node_form, process_form, opens, opening_of, entry_row, with_form, opened_from}
use Rattle.text.specs.Entry.{state_opened}
use Rattle.text.proofs.OpeningForms.{Good, opening-good}
use Rattle.text.proofs.OpeningRows.{counted, opened-next, opened-counted, counted-top, counted-rises, entry_fit, opened-all, fit-cases, fit-rights, fit-copied, fit-no-end}
use Rattle.text.proofs.OpeningCount.{opened-few}
use Rattle.text.proofs.OpeningRecords.{is_home, opened-length, opened-home, opened-listed, home-placed, home-ranged}

pub opened-requests : (fs : List Form) → (opened_from empty fs).requests ≡ []
unfolding opened_from with_form empty
opened-requests [] = refl
opened-requests (node_form n es ∷ fs) = refl
opened-requests (process_form p n ∷ fs) = refl

-- ---- of each row of a fit entry
row-object : (fs : List Form) → Good fs → (n m : ℕ) (e : Entry) → between 1 nodes m ≡ true → entry_fit fs e ≡ true → object_in_range (opened_from empty fs).processes (entry_row n m e) ≡ true
unfolding object_in_range entry_row
row-object fs g n m e b f =
    elim (fit-cases fs e f) [
      | inl o ↦ or_l (is_operation e.kind && (is_listed (opened_from empty fs).processes e.object && leb e.operation greatest_operation)) _
          (rw (o.kind, opened-listed fs g.passed e.object o.listed, o.ranged) refl)
      | inr s ↦ or_r (is_operation e.kind && (is_listed (opened_from empty fs).processes e.object && leb e.operation greatest_operation)) _ (rw (s.kind, s.node, s.none) refl)
    ]

row-opening : (fs : List Form) (n m : ℕ) (e : Entry) → between 1 nodes m ≡ true → entry_fit fs e ≡ true → is_opening (entry_row n m e) ≡ true
unfolding is_opening entry_row is_node in_node
row-opening fs n m e b f = rw (b, fit-copied fs e f) refl

pub opened-opening : (fs : List Form) → Good fs → all is_opening (opened_from empty fs).rows ≡ true
opened-opening fs g = opened-all fs is_opening (row-opening fs) g

row-rights : (fs : List Form) (n m : ℕ) (e : Entry) → between 1 nodes m ≡ true → entry_fit fs e ≡ true → right_in_range (entry_row n m e) ≡ true
unfolding right_in_range entry_row
row-rights fs n m e b f = rw (fit-no-end fs e f) (fit-rights fs e f)

row-place : (fs gs : List Form) (n m : ℕ) (e : Entry) → between 1 nodes m ≡ true → entry_fit fs e ≡ true → place_in_range (opened_from empty gs).processes (entry_row n m e) ≡ true
unfolding place_in_range entry_row is_node in_node
row-place fs gs n m e b f = rw b refl

row-no-end : (fs : List Form) (rs : List Row) (n m : ℕ) (e : Entry) → between 1 nodes m ≡ true → entry_fit fs e ≡ true → end_paired rs (entry_row n m e) ≡ true
unfolding end_paired entry_row
row-no-end fs rs n m e b f = rw (fit-no-end fs e f) refl

row-not-system : (n m : ℕ) (e : Entry) → between 1 nodes m ≡ true → same (is_system (entry_row n m e).place) (awaits_fetch [] n) ≡ true
unfolding same entry_row in_node awaits_fetch is_node
row-not-system n m e b = rw (node-not-system m b) refl

-- ---- of each row with its sources, of which it has none
all-sourced : (f : Row → Bool) (F : Row → Row → Row → Bool) → ((r s v : Row) → f r ≡ true → F r s v ≡ true) → (rs : List Row) → all f rs ≡ true → sourced F rs ≡ true
unfolding all sourced each
all-sourced f F h [] e = refl
all-sourced f F h (r ∷ rs) e = and_i (F r (source_of rs r) (via_of rs r)) (sourced F rs) (h r (source_of rs r) (via_of rs r) (and_l (f r) (all f rs) e)) (all-sourced f F h rs (and_r (f r) (all f rs) e))

unfoldable is_root : Row → Bool
is_root r = eqb r.source 0 && (eqb r.via 0 && eqb r.depth 1)

root-matches : (r s v : Row) → is_root r ≡ true → matches_source r s v ≡ true
unfolding matches_source is_root
root-matches r s v e = or_l (eqb r.source 0) _ (and_l (eqb r.source 0) (eqb r.via 0 && eqb r.depth 1) e)

-- a row of no source has depth 1: no row has number 0
no_zero : (rs : List Row) → each counted rs ≡ true → row_of rs 0 ≡ no_row
unfolding row_of
no_zero rs c =
    first-none (λ r. r.number) no_row rs 0
    (false_of (member 0 (map (λ r. r.number) rs)) (λ t. let (lo, hi) = rises-range (λ r. r.number) rs (counted-rises rs c) 0 t in omega arith))

roots-deep : (rs : List Row) → each counted rs ≡ true → all is_root rs ≡ true → sourced has_right_depth rs ≡ true
unfolding each all sourced has_right_depth is_root no_row greatest_depth
roots-deep [] c e = refl
roots-deep (r ∷ rs) c e =
    let older : each counted rs ≡ true = and_r (counted r rs) (each counted rs) c in
    let root : is_root r ≡ true = and_l (is_root r) (all is_root rs) e in
    let rest = and_r (eqb r.source 0) (eqb r.via 0 && eqb r.depth 1) root in
    let s : r.source ≡ 0 = eqb-true r.source 0 (and_l (eqb r.source 0) (eqb r.via 0 && eqb r.depth 1) root) in
    let v : r.via ≡ 0 = eqb-true r.via 0 (and_l (eqb r.via 0) (eqb r.depth 1) rest) in
    let d : r.depth ≡ 1 = eqb-true r.depth 1 (and_r (eqb r.via 0) (eqb r.depth 1) rest) in
    and_i (depth_right r rs) (sourced has_right_depth rs) (rw (s, v, d, no_zero rs older) refl) (roots-deep rs older (and_r (is_root r) (all is_root rs) e))

row-root : (fs : List Form) (n m : ℕ) (e : Entry) → between 1 nodes m ≡ true → entry_fit fs e ≡ true → is_root (entry_row n m e) ≡ true
unfolding is_root entry_row
row-root fs n m e b f = refl

-- ---- the parts: there are no requests
module _ (fs : List Form) (g : Good fs) where
  abbrev rows : List Row
  rows = (opened_from empty fs).rows

  abbrev records : List Process
  records = (opened_from empty fs).processes

  abbrev next : ℕ
  next = (opened_from empty fs).next

  numbers-opened : Numbers next rows []
  unfolding rows_rise requests_rise numbers_apart below_next next_in_range rows_fit requests_fit top_of rises all greatest_number row_slots request_slots
  numbers-opened =
      let few = opened-few fs g.passed in
      let follows = opened-next fs in
      let top = counted-top rows (opened-counted fs) in
      record {
        rows-rise = counted-rises rows (opened-counted fs);
        requests-rise = refl;
        numbers-apart = refl;
        below-next = rw (lt-ltb (top_of (λ r. r.number) rows) next (omega arith), lt-ltb 0 next (omega arith)) refl;
        next-in-range = range-between 1 (suc greatest_number) next (omega arith) (omega arith);
        rows-fit = le-leb (length rows) 1024 (omega arith);
        requests-fit = refl;
      }

  rows-opened : RowsSound rows [] records
  unfolding objects_in_range rights_in_range places_in_range sources_right has_right_sources depths_right copies_match ends_paired
  rows-opened =
      let roots = opened-all fs is_root (row-root fs) g in
      record {
        objects-in-range = opened-all fs (object_in_range records) (row-object fs g) g;
        rights-in-range = opened-all fs right_in_range (row-rights fs) g;
        places-in-range = opened-all fs (place_in_range records) (row-place fs fs) g;
        sources-right = all-sourced is_opening (has_right_sources []) (λ r s v o. or_l (is_opening r) _ o) rows (opened-opening fs g);
        depths-right = roots-deep rows (opened-counted fs) roots;
        copies-match = all-sourced is_root matches_source root-matches rows roots;
        ends-paired = opened-all fs (end_paired rows) (row-no-end fs rows) g;
      }

  loans-opened : LoansSound rows [] records
  unfolding fetched_in_range ports_stand requesters_listed items_few items_apart items_lent one_per_port copies_listed copy_listed entry_row all distinct
  loans-opened =
      record {
        fetched-in-range = refl;
        ports-stand = refl;
        requesters-listed = refl;
        items-few = refl;
        items-apart = refl;
        items-lent = refl;
        one-per-port = refl;
        copies-listed = opened-all fs (copy_listed []) (λ n m e b f. refl) g;
      }

  holders-opened : HoldersSound rows []
  unfolding older_fetched system_holds each entry_row
  holders-opened =
      record {
        older-fetched = refl;
        system-holds = opened-all fs (λ r. same (is_system r.place) (awaits_fetch [] r.number)) (λ n m e b f. row-not-system n m e b) g;
      }

  processes-opened : ProcessesSound rows records
  unfolding records_fit records_in_range processes_placed
  processes-opened =
      record {
        records-fit = eq-eqb (length records) processes (opened-length fs);
        records-in-range = all-mono is_home record_in_range home-ranged records (opened-home fs g.passed);
        processes-placed = home-placed rows 1 records (opened-home fs g.passed);
      }

  good-sound : Sound (opened_from empty fs)
  good-sound =
      let none = sym (opened-requests fs) in
      record {
        numbers = subst (Numbers next rows) none numbers-opened;
        rows = subst (λ vs. RowsSound rows vs records) none rows-opened;
        loans = subst (λ vs. LoansSound rows vs records) none loans-opened;
        holders = subst (HoldersSound rows) none holders-opened;
        placed = processes-opened;
      }

pub opened-sound : (ls rest : List (List ℕ)) (fs : List Form) → opening_of ls ≡ opens fs rest → Sound (state_opened fs)
unfolding state_opened
opened-sound ls rest fs e = good-sound fs (opening-good ls rest fs e)
