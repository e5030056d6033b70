-- ask: the clauses of rows and processes.
use Prim.Native.Nat.{ℕ, suc, ◌+◌, ◌<◌, ◌≤◌}
use mathlib.Core.Bool.{Bool, true, false, not, cond, ◌&&◌, ◌||◌}
use mathlib.Core.List.{List, [], ◌∷◌}
use mathlib.Core.Path.{◌≡◌, refl, sym, ap, ◌∙◌}
use mathlib.Core.Logic.{◌⊎◌, inl, inr}
use lib.Dec.{eqb}
use lib.ListN.{length, length-map}
use borrow.Author.Tests.{eqb-true, le-leb}
use native.Mathlib.Omega.{arith}
use Rattle.rows.specs.declared.Row.{Row}
use Rattle.rows.specs.Lists.{all, top_of, member, some}
use Rattle.rows.specs.Limits.{row_slots}
use Rattle.rows.specs.Codes.{is_subdirectory, is_end, in_clist, with_system, is_node, is_system}
use Rattle.rows.specs.Tables.{State, no_row, row_of, numbers, lists}
use Rattle.rows.specs.Sound.{rows_rise, rows_fit, object_in_range, objects_in_range, right_in_range, rights_in_range, place_in_range, places_in_range, sources_right, depths_right, copies_match, is_paired_with, other_end, end_paired, ends_paired, copy_listed, copies_listed, is_fetched, awaits_fetch, same, system_holds, processes_placed, sourced, has_right_sources, has_right_depth, matches_source}
use Rattle.rows.proofs.Bools.{false_of, clash, and_l, or_map, not_f, all-mono, all-eq}
use Rattle.rows.proofs.Keyed.{rises-map}
use Rattle.tables.proofs.Sound.{RowsSound, ProcessesSound, Sound}
use Rattle.rows.proofs.RowSources.{subdirectory-there, end-there, client-there}
use Rattle.tables.proofs.SoundFacts.{row_below, rows-top, row_number, same-eq, same_place, placed-still}
use Rattle.rows.proofs.Places.{clist-not-node, system-no-node, system-in-range, subdirectory-no-end}
use Rattle.rows.proofs.Lists.{all_map}
use Rattle.rows.specs.Setters.{with_place}
use Rattle.calls.specs.declared.Item.{Item}
use Rattle.calls.specs.Rules.{not_held}
use Rattle.calls.specs.Loans.{copies, copy_lent, new_request}
use Rattle.kept.proofs.Lists.{top-map}
use Rattle.kept.proofs.Sourced.{depth-placeless, copy-placeless}
use Rattle.kept.proofs.Moved.{moved, may_move, moved_same, moved-number, moved-stays, moved-goes, kind-same, objects-moved, rights-moved, paired-moved, sourced-moved, sources-moved}
use Rattle.kept.proofs.Loans.{of-rows, held-so}
use Rattle.kept.proofs.AskItems.{is_item, listed}
use Rattle.kept.proofs.AskList.{named_end}
use Rattle.kept.proofs.AskStack.{row-stacked, length-stacked, rises-stacked, top-stacked, all-stacked, sourced-stacked}
use Rattle.kept.proofs.AskCopy.{lendable, lendable-there, copy-object, copy-right, copy-place, copy-paired, copy-source, copy-depth, copy-matches, copy-listed, copy-held}
use Rattle.kept.proofs.Allowed.{AskAllowed}
use Rattle.kept.proofs.AskFacts.{lent_rows, asked_rows, asked, none_named, named-held, lists_named, lists-copy, lists-cases, old-found, request-old}

module _ (st : State) (s : Sound st) (p c : ℕ) (is : List Item) (a : AskAllowed st p c is) where
  abbrev lo : ℕ
  lo = suc st.next

  abbrev hi : ℕ
  hi = suc st.next + length (copies st is)

  none : is_item st is 0 ≡ false
  none = none_named st s p c is a

  -- what holds of the old rows and of each copy
  rows_all : (P : Row → Bool) → ((n : ℕ) (i : Item) → lendable st p c i ≡ true → lo ≤ n → n < hi → P (copy_lent st c st.next n i) ≡ true)
      → all P (lent_rows st is) ≡ true → all P (asked_rows st c is) ≡ true
  rows_all P h e = all-stacked st c st.next (lendable st p c) lo hi P h (copies st is) lo (lent_rows st is) a.lent (omega arith) (omega arith) e

  rows-sourced : (F : Row → Row → Row → Bool)
      → ((n : ℕ) (i : Item) → lendable st p c i ≡ true → F (copy_lent st c st.next n i) (row_of (lent_rows st is) i.row) (row_of (lent_rows st is) c) ≡ true)
      → sourced F (lent_rows st is) ≡ true → sourced F (asked_rows st c is) ≡ true
  rows-sourced F h e =
      sourced-stacked st c st.next (lendable st p c) lo hi F (lent_rows st is) (below c (client-there st.rows c a.client))
      (λ n i g. (below i.row (lendable-there st p c i g), h n i g)) (copies st is) lo (lent_rows st is) a.lent (omega arith) (λ m _. refl) e
    where
      below : (m : ℕ) → member m (numbers st.rows) ≡ true → m < lo
      below m t = let (l, u) = row_below st s.numbers m t in omega arith

  -- ---- numbers
  lent-top : top_of (λ r. r.number) (lent_rows st is) < lo
  lent-top = rw (top-map (λ r. r.number) no_row (moved (is_item st is) with_system) (moved-number (is_item st is) with_system) st.rows) (let t = rows-top st s.numbers in omega arith)

  pub rows-top' : top_of (λ r. r.number) (asked_rows st c is) < hi
  rows-top' = top-stacked st c st.next (copies st is) lo (lent_rows st is) lent-top

  pub rows-rise : rows_rise (asked_rows st c is) ≡ true
  unfolding rows_rise
  rows-rise =
      rises-stacked st c st.next (copies st is) lo (lent_rows st is) lent-top
      (rises-map (λ r. r.number) (moved (is_item st is) with_system) (moved-number (is_item st is) with_system) st.rows ∙ s.numbers.rows-rise)

  pub rows-fit : rows_fit (asked_rows st c is) ≡ true
  unfolding rows_fit
  rows-fit =
      let l : length (asked_rows st c is) ≡ length (copies st is) + length (lent_rows st is) = length-stacked st c st.next (copies st is) lo (lent_rows st is) in
      let k : length (lent_rows st is) ≡ length st.rows = length-map st.rows (moved (is_item st is) with_system) in
      let room = a.rows-room in
      le-leb (length (asked_rows st c is)) row_slots (omega arith)

  places-in-range : places_in_range st.processes (asked_rows st c is) ≡ true
  unfolding places_in_range moved
  places-in-range =
      rows_all (place_in_range st.processes) (λ n i g _ _. copy-place st s p c a.client (is_item st is) none [] n i g)
      (all_map (place_in_range st.processes) (moved (is_item st is) with_system) st.rows
      ∙ all-mono (place_in_range st.processes) (λ r. place_in_range st.processes (moved (is_item st is) with_system r))
      (λ r e. pick r (is_item st is r.number) e) st.rows s.rows.places-in-range)
    where
      pick : (r : Row) (b : Bool) → place_in_range st.processes r ≡ true → place_in_range st.processes (cond b (with_place with_system r) r) ≡ true
      pick r true e = system-in-range st.processes (with_place with_system r) (unfold with_place in refl)
      pick r false e = e

  -- ---- sources
  may-move : all (may_move (is_item st is)) st.rows ≡ true
  unfolding may_move
  may-move = of-rows st.rows s.numbers.rows-rise (may_move (is_item st is)) (λ n m. pick n m (is_item st is n) refl)
    where
      pick : (n : ℕ) → member n (numbers st.rows) ≡ true → (b : Bool) → is_item st is n ≡ b
          → not (is_item st is (row_of st.rows n).number) || (not (is_node (row_of st.rows n).place) && (is_end (row_of st.rows n).kind || some (row_of st.rows n).request)) ≡ true
      pick n m true g =
          let at : (row_of st.rows n).place ≡ in_clist p =
          unfold not_held in eqb-true (row_of st.rows n).place (in_clist p) (not_f (eqb (row_of st.rows n).place (in_clist p)) (named-held st s p c is a n g)) in
          rw (row_number st.rows n m, g, at, clist-not-node p, named_end st is n g) refl
      pick n m false g = rw (row_number st.rows n m, g) refl

  -- ---- ends
  ends-paired : ends_paired (asked_rows st c is) ≡ true
  unfolding ends_paired
  ends-paired =
      all-mono (end_paired (lent_rows st is)) (end_paired (asked_rows st c is)) (λ r e. step r e) (asked_rows st c is)
      (rows_all (end_paired (lent_rows st is)) (λ n i g _ _. copy-paired st s p c a.client (is_item st is) none [] n i g (lent_rows st is))
      (all_map (end_paired (lent_rows st is)) (moved (is_item st is) with_system) st.rows
      ∙ all-eq (λ r. end_paired (lent_rows st is) (moved (is_item st is) with_system r)) (end_paired st.rows) (paired-moved (is_item st is) with_system none st.rows) st.rows
      ∙ s.rows.ends-paired))
    where
      end_of : (r b : Row) → is_paired_with r b ≡ true → is_end b.kind ≡ true
      end_of r b e = unfold is_paired_with in and_l (is_end b.kind) (eqb r.object b.object && eqb r.source b.source) e

      other : (r : Row) → is_paired_with r (row_of (lent_rows st is) (other_end r)) ≡ true → is_paired_with r (row_of (asked_rows st c is) (other_end r)) ≡ true
      other r e =
          let k : is_end (row_of st.rows (other_end r)).kind ≡ true =
          sym (ap is_end (kind-same (is_item st is) with_system none st.rows (other_end r))) ∙ end_of r (row_of (lent_rows st is) (other_end r)) e in
          let (lo, hi) = row_below st s.numbers (other_end r) (end-there st.rows (other_end r) k) in
          ap (is_paired_with r) (row-stacked st c st.next (copies st is) (suc st.next) (lent_rows st is) (other_end r) (omega arith)) ∙ e

      step : (r : Row) → end_paired (lent_rows st is) r ≡ true → end_paired (asked_rows st c is) r ≡ true
      step r e = unfold end_paired in or_map (not (is_end r.kind)) (is_paired_with r (row_of (lent_rows st is) (other_end r))) (is_paired_with r (row_of (asked_rows st c is) (other_end r))) (other r) e

  -- ---- loans
  pub copies-listed : copies_listed (asked st p c is ∷ st.requests) (asked_rows st c is) ≡ true
  unfolding copies_listed
  copies-listed =
      rows_all (copy_listed (asked st p c is ∷ st.requests))
      (λ n i g l h. copy-listed st s p c a.client (is_item st is) none (listed st is (suc st.next)) n i g (omega arith) (lists-copy st s p c is a n l h))
      (all_map (copy_listed (asked st p c is ∷ st.requests)) (moved (is_item st is) with_system) st.rows
      ∙ all-mono (copy_listed st.requests) (λ r. copy_listed (asked st p c is ∷ st.requests) (moved (is_item st is) with_system r)) step st.rows s.loans.copies-listed)
    where
      step : (r : Row) → copy_listed st.requests r ≡ true → copy_listed (asked st p c is ∷ st.requests) (moved (is_item st is) with_system r) ≡ true
      step r e =
          moved_same (is_item st is) with_system (copy_listed (asked st p c is ∷ st.requests)) (λ r. unfold copy_listed with_place in refl) r
          ∙ (unfold copy_listed in rw (request-old st s p c is a r e) e)

  pub system-holds : system_holds (asked st p c is ∷ st.requests) (asked_rows st c is) ≡ true
  unfolding system_holds
  system-holds =
      rows_all holds
      (λ n i g l h. copy-held st s p c a.client (is_item st is) none (listed st is (suc st.next)) n i g (omega arith) (lists-copy st s p c is a n l h))
      (all_map holds (moved (is_item st is) with_system) st.rows ∙ of-rows st.rows s.numbers.rows-rise (λ r. holds (moved (is_item st is) with_system r)) (λ n m. pick n m (is_item st is n) refl))
    where
      holds : Row → Bool
      holds r = same (is_system r.place) (awaits_fetch (asked st p c is ∷ st.requests) r.number)

      at-system : is_system with_system ≡ true
      at-system = unfold is_system with_system in refl

      awaited : (n : ℕ) → is_item st is n ≡ true → awaits_fetch (asked st p c is ∷ st.requests) n ≡ true
      awaited n g = unfold awaits_fetch in rw (lists_named st s p c is a n g) (unfold is_fetched new_request in refl)

      unlisted : (n : ℕ) → n < st.next → is_item st is n ≡ false → lists n (asked st p c is) ≡ false
      unlisted n h g = false_of (lists n (asked st p c is)) (λ t. neither (lists-cases st s p c is a n t))
        where
          neither : (is_item st is n ≡ true) ⊎ ((suc st.next ≤ n) × (n < suc st.next + length (copies st is))) → ⊥
          neither (inl q) = clash q g
          neither (inr (l, u)) = omega arith

      as_before : (n : ℕ) → n < st.next → is_item st is n ≡ false → awaits_fetch (asked st p c is ∷ st.requests) n ≡ awaits_fetch st.requests n
      as_before n h g = unfold awaits_fetch in rw (unlisted n h g) refl

      pick : (n : ℕ) → member n (numbers st.rows) ≡ true → (b : Bool) → is_item st is n ≡ b → holds (moved (is_item st is) with_system (row_of st.rows n)) ≡ true
      pick n m true g =
          same-eq (is_system (moved (is_item st is) with_system (row_of st.rows n)).place) (awaits_fetch (asked st p c is ∷ st.requests) (moved (is_item st is) with_system (row_of st.rows n)).number)
          (ap is_system (moved-goes (is_item st is) with_system (row_of st.rows n) (ap (is_item st is) (row_number st.rows n m) ∙ g))
          ∙ at-system
          ∙ sym (ap (awaits_fetch (asked st p c is ∷ st.requests)) (moved-number (is_item st is) with_system (row_of st.rows n) ∙ row_number st.rows n m) ∙ awaited n g))
      pick n m false g =
          rw (moved-stays (is_item st is) with_system (row_of st.rows n) (ap (is_item st is) (row_number st.rows n m) ∙ g))
          (rw (row_number st.rows n m, as_before n (row_below st s.numbers n m).1 g) (held-so st.rows st.requests s.holders.system-holds n m))

  -- ---- processes
  processes-placed : processes_placed (asked_rows st c is) st.processes ≡ true
  unfolding processes_placed
  processes-placed =
      placed-still st.rows (asked_rows st c is) (λ e k hi sub at. same_place (row_of st.rows e) (row_of (asked_rows st c is) e) (stays e k hi sub at)) st.processes s.placed
    where
      stays : (e k : ℕ) → k ≤ 64 → is_subdirectory (row_of st.rows e).kind ≡ true → (row_of st.rows e).place ≡ in_clist k → row_of (asked_rows st c is) e ≡ row_of st.rows e
      stays e k u sub at =
          let m : member e (numbers st.rows) ≡ true = subdirectory-there st.rows e sub in
          let below : e < st.next = (row_below st s.numbers e m).1 in
          let g : is_item st is e ≡ false = false_of (is_item st is e) (λ g. clash (named_end st is e g) (subdirectory-no-end (row_of st.rows e).kind sub)) in
          old-found st s p c is a e (omega arith) ∙ moved-stays (is_item st is) with_system (row_of st.rows e) (ap (is_item st is) (row_number st.rows e m) ∙ g)

  -- ---- the parts
  pub rows-asked : RowsSound (asked_rows st c is) (asked st p c is ∷ st.requests) st.processes
  unfolding objects_in_range rights_in_range sources_right depths_right copies_match
  rows-asked =
      record {
        objects-in-range =
            rows_all (object_in_range st.processes) (λ n i g _ _. copy-object st s p c a.client (is_item st is) none [] n i g)
            (objects-moved (is_item st is) with_system none st.processes st.rows ∙ s.rows.objects-in-range);
        rights-in-range =
            rows_all right_in_range (λ n i g _ _. copy-right st s p c a.client (is_item st is) none [] n i g)
            (rights-moved (is_item st is) with_system none st.rows ∙ s.rows.rights-in-range);
        places-in-range = places-in-range;
        sources-right =
            rows-sourced (has_right_sources (asked st p c is ∷ st.requests)) (copy-source st s p c a.client (is_item st is) none (listed st is (suc st.next)))
            (sources-moved (is_item st is) with_system none system-no-node st.requests (asked st p c is ∷ st.requests) st.rows may-move
            (λ r e. ap (λ v. v.port) (request-old st s p c is a r e)) s.loans.copies-listed s.rows.sources-right);
        depths-right =
            rows-sourced has_right_depth (copy-depth st s p c a.client (is_item st is) none [])
            (sourced-moved (is_item st is) with_system none has_right_depth depth-placeless st.rows s.rows.depths-right);
        copies-match =
            rows-sourced matches_source (copy-matches st s p c a.client (is_item st is) none [])
            (sourced-moved (is_item st is) with_system none matches_source copy-placeless st.rows s.rows.copies-match);
        ends-paired = ends-paired;
      }

  pub processes-asked : ProcessesSound (asked_rows st c is) st.processes
  processes-asked =
      record {
        records-fit = s.placed.records-fit;
        records-in-range = s.placed.records-in-range;
        processes-placed = processes-placed;
      }
