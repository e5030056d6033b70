-- New rows before the old ones keep the tables sound; a refusal leaves them.
use Prim.Native.Nat.{ℕ, suc, ◌+◌, ◌<◌, ◌≤◌}
use mathlib.Core.Bool.{Bool, true, false, not, ◌&&◌, ◌||◌}
use mathlib.Core.List.{List, [], ◌∷◌, ◌++◌}
use mathlib.Core.Path.{◌≡◌, refl, sym, ap, ◌∙◌}
use lib.Dec.{leb, ltb, eqb}
use lib.ListN.{length}
use borrow.Author.Tests.{eq-eqb, ne_eqb, ltb-true, ltb-false, lt-ltb, leb-true, le-leb}
use native.Mathlib.Omega.{arith}
use Rattle.rows.specs.declared.Row.{Row}
use Rattle.rows.specs.declared.Request.{Request}
use Rattle.rows.specs.Lists.{all, top_of, rises, first_with, member, between, some, nonzero}
use Rattle.rows.specs.Limits.{greatest_number, row_slots}
use Rattle.rows.specs.Codes.{client_end, server_end, is_subdirectory, is_client, is_server, is_end, in_clist, is_system}
use Rattle.rows.specs.Tables.{State, no_row, row_of, numbers, lists}
use Rattle.rows.specs.Sound.{rows_rise, numbers_apart, below_next, next_in_range, rows_fit, object_in_range, objects_in_range, right_in_range, rights_in_range, place_in_range, places_in_range, source_right, sources_right, depth_right, depths_right, copy_matches, copies_match, is_paired_with, other_end, end_paired, ends_paired, port_stands, ports_stand, may_be_listed, items_lent, copy_listed, copies_listed, awaits_fetch, same, system_holds, is_fetched, has_right_sources, has_right_depth, matches_source}
use Rattle.rows.proofs.Bools.{false_of, clash, and_l, and_r, and_i, not_t, or_l, or_map, all-mono, all-and, all-at, or_r}
use Rattle.rows.proofs.Keyed.{rises-cons}
use Rattle.tables.proofs.Sound.{Numbers, RowsSound, LoansSound, HoldersSound, ProcessesSound, Sound}
use Rattle.rows.proofs.Lists.{all_append, member-nonzero}
use Rattle.rows.proofs.RowSources.{row-there, subdirectory-there}
use Rattle.rows.proofs.Places.{no-row-listed}
use Rattle.tables.proofs.SoundFacts.{same-eq, rows-top, row_below, requests-below, requests-top, next-some, SamePlace, same_place, placed-still}
use Rattle.tables.proofs.Awaits.{awaits-none}
use Rattle.kept.proofs.Sourced.{sourced-cons}
use Rattle.calls.specs.Rules.{rows_full, numbers_spent, with_new_rows}

-- ---- what a request lists
-- what is no row is in no request's list
pub none-lists : (rows : List Row) (vs : List Request) → items_lent rows vs ≡ true → (e : ℕ) → member e (numbers rows) ≡ false → all (λ v. not (lists e v)) vs ≡ true
unfolding items_lent lists
none-lists rows vs lent e f = all-mono (λ v. all (λ e. may_be_listed v (row_of rows e)) (nonzero v.items)) (λ v. not (some e && member e v.items)) listed vs lent
  where
    listed : (v : Request) → all (λ e. may_be_listed v (row_of rows e)) (nonzero v.items) ≡ true → not (some e && member e v.items) ≡ true
    listed v a =
        ap not (false_of (some e && member e v.items) (λ t.
        clash (row-there (may_be_listed v) (no-row-listed v) rows e (all-at (λ e. may_be_listed v (row_of rows e)) (nonzero v.items) a e (member-nonzero v.items e ∙ t))) f))

-- ---- look-up among new and old rows: rows with numbers from b on stand before rs
module _ (b : ℕ) (rs : List Row) where
  pub row_before : (new : List Row) → all (λ r. leb b r.number) new ≡ true → (n : ℕ) → n < b → row_of (new ++ rs) n ≡ row_of rs n
  unfolding row_of first_with all
  row_before [] a n h = refl
  row_before (r ∷ new) a n h =
      let le : b ≤ r.number = leb-true b r.number (and_l (leb b r.number) (all (λ r. leb b r.number) new) a) in
      rw (ne_eqb r.number n (λ q. omega arith)) (row_before new (and_r (leb b r.number) (all (λ r. leb b r.number) new) a) n h)

  pub number-before : (new : List Row) → all (λ r. leb b r.number) new ≡ true → (n : ℕ) → n < b → member n (numbers (new ++ rs)) ≡ member n (numbers rs)
  unfolding numbers member all
  number-before [] a n h = refl
  number-before (r ∷ new) a n h =
      let le : b ≤ r.number = leb-true b r.number (and_l (leb b r.number) (all (λ r. leb b r.number) new) a) in
      rw (ne_eqb n r.number (λ q. omega arith)) (number-before new (and_r (leb b r.number) (all (λ r. leb b r.number) new) a) n h)

-- a test that no_row fails and that an old row passes
found_before : (st : State) → Numbers st.next st.rows st.requests → (new : List Row) → all (λ r. leb st.next r.number) new ≡ true
    → (P : Row → Bool) → P no_row ≡ false → (n : ℕ) → P (row_of st.rows n) ≡ true → P (row_of (new ++ st.rows) n) ≡ true
found_before st s new a P z n t =
    let (lo, hi) = row_below st s n (row-there P z st.rows n t) in
    rw (row_before st.next st.rows new a n hi) t

-- ---- new rows
-- what a row must be to be added with number n before the rows rs (the old ones of st and, it may be, others)
pub record New (st : State) (rs : List Row) (n : ℕ) (r : Row) : Type 0 where
  pub number : r.number ≡ n
  pub object : object_in_range st.processes r ≡ true
  pub right : right_in_range r ≡ true
  pub place : place_in_range st.processes r ≡ true
  pub away : is_system r.place ≡ false
  pub source : source_right st.requests r rs ≡ true
  pub depth : depth_right r rs ≡ true
  pub copy : copy_matches r rs ≡ true
  pub unborne : r.request ≡ 0

-- what holds of new rows before the old ones, with the next number n after them
pub record Added (st : State) (new : List Row) (n : ℕ) : Type 0 where
  pub rise : rises (λ r. r.number) (new ++ st.rows) ≡ true
  pub below : top_of (λ r. r.number) (new ++ st.rows) < n
  pub later : st.next ≤ n
  pub counted : n ≤ suc greatest_number
  pub fit : length (new ++ st.rows) ≤ row_slots
  pub new-numbers : all (λ r. leb st.next r.number) new ≡ true
  pub objects : all (object_in_range st.processes) new ≡ true
  pub rights : all right_in_range new ≡ true
  pub places : all (place_in_range st.processes) new ≡ true
  pub away : all (λ r. not (is_system r.place)) new ≡ true
  pub sources : sources_right st.requests (new ++ st.rows) ≡ true
  pub depths : depths_right (new ++ st.rows) ≡ true
  pub copies : copies_match (new ++ st.rows) ≡ true
  pub unborne : all (λ r. eqb r.request 0) new ≡ true

pub added_none : (st : State) → Sound st → Added st [] st.next
unfolding rows_rise next_in_range between rows_fit all
added_none st s =
    record {
      rise = s.numbers.rows-rise;
      below = rows-top st s.numbers;
      later = omega arith;
      counted = leb-true st.next (suc greatest_number) (and_r (leb 1 st.next) (leb st.next (suc greatest_number)) s.numbers.next-in-range);
      fit = leb-true (length st.rows) row_slots s.numbers.rows-fit;
      new-numbers = refl;
      objects = refl;
      rights = refl;
      places = refl;
      away = refl;
      sources = s.rows.sources-right;
      depths = s.rows.depths-right;
      copies = s.rows.copies-match;
      unborne = refl;
    }

pub added-one : (st : State) (new : List Row) (n : ℕ) (r : Row) → suc n ≤ suc greatest_number → suc (length (new ++ st.rows)) ≤ row_slots
    → New st (new ++ st.rows) n r → Added st new n → Added st (r ∷ new) (suc n)
unfolding rises top_of all sources_right depths_right copies_match
added-one st new n r c f w a =
    let number : r.number ≡ n = w.number in
    let below : top_of (λ r. r.number) (new ++ st.rows) < n = a.below in
    let later : st.next ≤ n = a.later in
    record {
      rise = rises-cons (λ r. r.number) r (new ++ st.rows) (omega arith) a.rise;
      below = omega arith;
      later = omega arith;
      counted = c;
      fit = f;
      new-numbers = and_i (leb st.next r.number) (all (λ r. leb st.next r.number) new) (le-leb st.next r.number (omega arith)) a.new-numbers;
      objects = and_i (object_in_range st.processes r) (all (object_in_range st.processes) new) w.object a.objects;
      rights = and_i (right_in_range r) (all right_in_range new) w.right a.rights;
      places = and_i (place_in_range st.processes r) (all (place_in_range st.processes) new) w.place a.places;
      away = and_i (not (is_system r.place)) (all (λ r. not (is_system r.place)) new) (ap not w.away) a.away;
      sources = sourced-cons (has_right_sources st.requests) r (new ++ st.rows) w.source a.sources;
      depths = sourced-cons has_right_depth r (new ++ st.rows) w.depth a.depths;
      copies = sourced-cons matches_source r (new ++ st.rows) w.copy a.copies;
      unborne = and_i (eqb r.request 0) (all (λ r. eqb r.request 0) new) (eq-eqb r.request 0 w.unborne) a.unborne;
    }

-- ---- the parts, with the new rows
module _ (st : State) (s : Sound st) (new : List Row) (n : ℕ) (a : Added st new n) where
  abbrev rows : List Row
  rows = new ++ st.rows

  -- a test that no_row fails and that an old row passes
  still : (P : Row → Bool) → P no_row ≡ false → (n : ℕ) → P (row_of st.rows n) ≡ true → P (row_of rows n) ≡ true
  still = found_before st s.numbers new a.new-numbers

  numbers-added : Numbers n rows st.requests
  unfolding rows_rise numbers_apart below_next next_in_range between rows_fit
  numbers-added =
      let later : st.next ≤ n = a.later in
      let requests : top_of (λ v. v.number) st.requests < st.next = requests-top st s.numbers in
      let some : 0 < st.next = next-some st s.numbers in
      record {
        rows-rise = a.rise;
        requests-rise = s.numbers.requests-rise;
        numbers-apart =
            all-and {A = Request} (λ v. ltb v.number st.next) (λ v. not (member v.number (numbers st.rows))) (λ v. not (member v.number (numbers rows)))
            (λ v b t. rw (number-before st.next st.rows new a.new-numbers v.number (ltb-true v.number st.next b)) t)
            st.requests (requests-below st s.numbers) s.numbers.numbers-apart;
        below-next =
            and_i (ltb (top_of (λ r. r.number) rows) n) (ltb (top_of (λ v. v.number) st.requests) n) (lt-ltb (top_of (λ r. r.number) rows) n a.below)
            (lt-ltb (top_of (λ v. v.number) st.requests) n (omega arith));
        next-in-range = and_i (leb 1 n) (leb n (suc greatest_number)) (le-leb 1 n (omega arith)) (le-leb n (suc greatest_number) a.counted);
        rows-fit = le-leb (length rows) row_slots a.fit;
        requests-fit = s.numbers.requests-fit;
      }

  rows-added : all (end_paired rows) new ≡ true → RowsSound rows st.requests st.processes
  unfolding objects_in_range rights_in_range places_in_range ends_paired
  rows-added paired =
      record {
        objects-in-range = all_append (object_in_range st.processes) new st.rows a.objects s.rows.objects-in-range;
        rights-in-range = all_append right_in_range new st.rows a.rights s.rows.rights-in-range;
        places-in-range = all_append (place_in_range st.processes) new st.rows a.places s.rows.places-in-range;
        sources-right = a.sources;
        depths-right = a.depths;
        copies-match = a.copies;
        ends-paired = all_append (end_paired rows) new st.rows paired (all-mono (end_paired st.rows) (end_paired rows) pair-kept st.rows s.rows.ends-paired);
      }
    where
      no-pair : (r : Row) → is_paired_with r no_row ≡ false
      no-pair r = unfold is_paired_with is_end is_client is_server client_end server_end no_row in refl

      pair-kept : (r : Row) → end_paired st.rows r ≡ true → end_paired rows r ≡ true
      pair-kept r t = unfold end_paired in or_map (not (is_end r.kind)) _ _ (λ q. still (is_paired_with r) (no-pair r) (other_end r) q) t

  loans-added : LoansSound rows st.requests st.processes
  unfolding ports_stand port_stands items_lent copies_listed copy_listed is_client client_end no_row
  loans-added =
      record {
        fetched-in-range = s.loans.fetched-in-range;
        ports-stand =
            all-mono (port_stands st.rows) (port_stands rows)
            (λ v t.
            and_i (is_client (row_of rows v.port).kind) (ltb (suc v.port) v.number)
            (still (λ r. is_client r.kind) refl v.port (and_l (is_client (row_of st.rows v.port).kind) (ltb (suc v.port) v.number) t))
            (and_r (is_client (row_of st.rows v.port).kind) (ltb (suc v.port) v.number) t))
            st.requests s.loans.ports-stand;
        requesters-listed = s.loans.requesters-listed;
        items-few = s.loans.items-few;
        items-apart = s.loans.items-apart;
        items-lent =
            all-mono (λ v. all (λ e. may_be_listed v (row_of st.rows e)) (nonzero v.items)) (λ v. all (λ e. may_be_listed v (row_of rows e)) (nonzero v.items))
            (λ v t. all-mono (λ e. may_be_listed v (row_of st.rows e)) (λ e. may_be_listed v (row_of rows e)) (still (may_be_listed v) (no-row-listed v)) (nonzero v.items) t)
            st.requests s.loans.items-lent;
        one-per-port = s.loans.one-per-port;
        copies-listed =
            all_append (copy_listed st.requests) new st.rows (all-mono (λ r. eqb r.request 0) (copy_listed st.requests) (λ r t. or_l (eqb r.request 0) _ t) new a.unborne)
            s.loans.copies-listed;
      }

  holders-added : HoldersSound rows st.requests
  unfolding system_holds
  holders-added =
      record {
        older-fetched = s.holders.older-fetched;
        system-holds = all_append holds new st.rows new-held s.holders.system-holds;
      }
    where
      holds : Row → Bool
      holds r = same (is_system r.place) (awaits_fetch st.requests r.number)

      -- no request lists a new row
      unlisted : (e : ℕ) → st.next ≤ e → awaits_fetch st.requests e ≡ false
      unlisted e h =
          awaits-none e st.requests
          (all-mono (λ v. not (lists e v)) (λ v. is_fetched v || not (lists e v)) (λ v n. or_r (is_fetched v) (not (lists e v)) n) st.requests
          (none-lists st.rows st.requests s.loans.items-lent e (false_of (member e (numbers st.rows)) (λ t. let (lo, hi) = row_below st s.numbers e t in omega arith))))

      new-held : all holds new ≡ true
      new-held =
          all-and {A = Row} (λ r. leb st.next r.number) (λ r. not (is_system r.place)) holds
          (λ r h t. same-eq (is_system r.place) (awaits_fetch st.requests r.number) (not_t (is_system r.place) t ∙ sym (unlisted r.number (leb-true st.next r.number h))))
          new a.new-numbers a.away

  processes-added : ProcessesSound rows st.processes
  processes-added =
      record { records-fit = s.placed.records-fit; records-in-range = s.placed.records-in-range; processes-placed = placed-still st.rows rows stays st.processes s.placed }
    where
      stays : (e p : ℕ) → p ≤ 64 → is_subdirectory (row_of st.rows e).kind ≡ true → (row_of st.rows e).place ≡ in_clist p → SamePlace (row_of st.rows e) (row_of rows e)
      stays e p hi k at =
          same_place (row_of st.rows e) (row_of rows e) (row_before st.next st.rows new a.new-numbers e (row_below st s.numbers e (subdirectory-there st.rows e k)).1)

  pub added-sound : all (end_paired rows) new ≡ true → Sound (with_new_rows rows n st)
  unfolding with_new_rows
  added-sound paired = record { numbers = numbers-added; rows = rows-added paired; loans = loans-added; holders = holders-added; placed = processes-added }

-- room for k more rows, and numbers for them
pub rows-room : (st : State) (k : ℕ) → rows_full st k ≡ false → length st.rows + k ≤ row_slots
unfolding rows_full
rows-room st k e = ltb-false row_slots (length st.rows + k) e

pub numbers-room : (st : State) (k : ℕ) → numbers_spent st k ≡ false → st.next + k ≤ suc greatest_number
unfolding numbers_spent
numbers-room st k e = ltb-false (suc greatest_number) (st.next + k) e

-- one more row, no end
pub add-row : (st : State) → Sound st → (r : Row) → New st st.rows st.next r → is_end r.kind ≡ false → rows_full st 1 ≡ false → numbers_spent st 1 ≡ false
    → Sound (with_new_rows (r ∷ st.rows) (suc st.next) st)
unfolding all end_paired
add-row st s r w e f n =
    let room = rows-room st 1 f in
    let left = numbers-room st 1 n in
    added-sound st s (r ∷ []) (suc st.next) (added-one st [] st.next r (omega arith) (omega arith) w (added_none st s)) (rw e refl)
