-- fetch keeps the tables sound: the rows that the request lists go to the caller's c-list, the request is fetched.
use Prim.Native.Nat.{ℕ, ◌<◌, ◌≤◌}
use mathlib.Core.Bool.{Bool, true, false, not, cond, ◌&&◌, ◌||◌}
use mathlib.Core.List.{List, [], ◌∷◌, map}
use mathlib.Core.Path.{◌≡◌, refl, sym, ap, ◌∙◌, subst}
use lib.Dec.{ltb, eqb}
use lib.ListN.{length, length-map}
use borrow.Author.Tests.{eqb-true}
use Rattle.rows.specs.declared.Row.{Row}
use Rattle.rows.specs.declared.Request.{Request}
use Rattle.rows.specs.Lists.{any, all, rises, member, distinct, some, nonzero}
use Rattle.rows.specs.Limits.{most_items}
use Rattle.rows.specs.Codes.{fetched_mark, is_subdirectory, is_end, in_clist, with_system, is_node, is_system}
use Rattle.rows.specs.Tables.{State, no_row, no_request, row_of, request_of, open_on, is_listed, numbers, lists}
use Rattle.rows.specs.Sound.{rows_rise, requests_rise, numbers_apart, below_next, next_in_range, rows_fit, requests_fit, records_fit, objects_in_range, rights_in_range, place_in_range, places_in_range, mark_in_range, fetched_in_range, sources_right, depths_right, copies_match, records_in_range, end_paired, ends_paired, port_stands, ports_stand, requesters_listed, items_few, items_apart, items_lent, may_be_listed, one_per_port, copy_listed, copies_listed, is_fetched, older_fetched_by, older_fetched, awaits_fetch, same, system_holds, processes_placed, has_right_depth, matches_source}
use Rattle.rows.proofs.Bools.{false_of, true_of, clash, and_l, or_l, or_r, any-eq, all-mono, all-eq, all-at}
use Rattle.rows.proofs.Keyed.{all_first, rises-map, rises-range, keys-map}
use Rattle.tables.proofs.Sound.{Numbers, RowsSound, LoansSound, HoldersSound, ProcessesSound, Sound}
use Rattle.rows.proofs.Lists.{member-nonzero, all_map}
use Rattle.rows.proofs.Places.{clist-not-node, clist-no-system, system-no-node}
use Rattle.tables.proofs.SoundFacts.{clist-not-system, clist-in-range, row_number, same-eq, eq-same, same_place, placed-still}
use Rattle.tables.proofs.Awaits.{listers-fetched}
use Rattle.rows.proofs.RowSources.{subdirectory-there}
use Rattle.rows.specs.Setters.{with_place, with_fetched}
use Rattle.calls.specs.Loans.{handed_to, now_fetched, handed_over}
use Rattle.calls.specs.Rules.{asked_of}
use Rattle.kept.proofs.Allowed.{FetchAllowed}
use Rattle.kept.proofs.Lists.{each_map, top-map, other-there, other-same}
use Rattle.kept.proofs.Sourced.{depth-placeless, copy-placeless}
use Rattle.kept.proofs.Moved.{moved, may_move, moved_same, moved-stays, moved-goes, moved-number, row_moved, objects-moved, rights-moved, paired-moved, ports-moved, listed-moved, sources-moved, sourced-moved}
use Rattle.kept.proofs.Loans.{of-rows, held-so, now-same, now-number, now-lists, still-fetched, request-now, fetched-now, awaits-same}

-- v is an open request of sound tables, not fetched, and p a listed process
module _ (st : State) (s : Sound st) (p : ℕ) (v : Request) (found : request_of st.requests v.number ≡ v) (there : member v.number (map (λ v. v.number) st.requests) ≡ true)
    (unfetched : is_fetched v ≡ false) (listed : is_listed st.processes p ≡ true) where
  abbrev goes : ℕ → Bool
  goes e = lists e v

  abbrev rows' : List Row
  rows' = map (moved goes (in_clist p)) st.rows

  abbrev requests' : List Request
  requests' = map (now_fetched v.number) st.requests

  abbrev after : State
  after = record { rows = rows'; requests = requests'; processes = st.processes; next = st.next }

  none-goes : goes 0 ≡ false
  unfolding lists some
  none-goes = refl

  -- ---- what the tables say of v and of its rows
  of-request : (P : Request → Bool) → all P st.requests ≡ true → P v ≡ true
  of-request P e = subst (λ w. P w ≡ true) found (unfold request_of in all_first (λ v. v.number) no_request P st.requests v.number e there)

  awaited : (e : ℕ) → goes e ≡ true → awaits_fetch st.requests e ≡ true
  awaited e g =
      true_of (awaits_fetch st.requests e) λ a.
      clash (of-request (λ w. is_fetched w || not (lists e w)) (listers-fetched e st.requests (unfold older_fetched in s.holders.older-fetched) a)) (rw (unfetched, g) refl)

  item : (e : ℕ) → some e && member e v.items ≡ true → member e (nonzero v.items) ≡ true
  item e q = member-nonzero v.items e ∙ q

  may-be : (e : ℕ) → goes e ≡ true → may_be_listed v (row_of st.rows e) ≡ true
  may-be e g =
      all-at (λ e. may_be_listed v (row_of st.rows e)) (nonzero v.items)
      (of-request (λ v. all (λ e. may_be_listed v (row_of st.rows e)) (nonzero v.items)) (unfold items_lent in s.loans.items-lent)) e (item e (unfold lists in g))

  -- what goes is with the system
  system-had : (n : ℕ) → member n (numbers st.rows) ≡ true → goes n ≡ true → (row_of st.rows n).place ≡ with_system
  system-had n m g =
      unfold is_system in eqb-true (row_of st.rows n).place with_system
      (eq-same (is_system (row_of st.rows n).place) (awaits_fetch st.requests n) (held-so st.rows st.requests s.holders.system-holds n m) ∙ awaited n g)

  may-move : all (may_move goes) st.rows ≡ true
  unfolding may_move may_be_listed
  may-move = of-rows st.rows s.numbers.rows-rise (may_move goes) (λ n m. pick n m (goes n) refl)
    where
      ended : (a b c d : Bool) → (a && b) || (c && d) ≡ true → a || c ≡ true
      ended true b c d e = refl
      ended false b c d e = and_l c d e

      pick : (n : ℕ) → member n (numbers st.rows) ≡ true → (b : Bool) → goes n ≡ b
          → not (goes (row_of st.rows n).number) || (not (is_node (row_of st.rows n).place) && (is_end (row_of st.rows n).kind || some (row_of st.rows n).request)) ≡ true
      pick n m true g =
          rw (row_number st.rows n m, g, system-had n m g, system-no-node)
          (ended (is_end (row_of st.rows n).kind) (ltb (row_of st.rows n).number v.number) (some (row_of st.rows n).request) (eqb (row_of st.rows n).request v.number) (may-be n g))
      pick n m false g = rw (row_number st.rows n m, g) refl

  positive : 0 < v.number
  positive = (rises-range (λ v. v.number) st.requests (unfold requests_rise in s.numbers.requests-rise) v.number there).0

  -- ---- the clauses
  rows-rise : rows_rise after.rows ≡ true
  unfolding rows_rise
  rows-rise = rises-map (λ r. r.number) (moved goes (in_clist p)) (moved-number goes (in_clist p)) st.rows ∙ s.numbers.rows-rise

  numbers-same : numbers rows' ≡ numbers st.rows
  unfolding numbers
  numbers-same = keys-map (λ r. r.number) (moved goes (in_clist p)) (moved-number goes (in_clist p)) st.rows

  -- a test of requests that does not look at whether they are fetched
  requests-all : (P : Request → Bool)
      → ((k : ℕ) (v : Request) → P (with_fetched k v) ≡ P v)
      → all P st.requests ≡ true → all P requests' ≡ true
  requests-all P h e = all_map P (now_fetched v.number) st.requests ∙ all-eq (λ w. P (now_fetched v.number w)) P (now-same v.number P h) st.requests ∙ e

  places-in-range : places_in_range after.processes after.rows ≡ true
  unfolding places_in_range moved
  places-in-range =
      all_map (place_in_range st.processes) (moved goes (in_clist p)) st.rows
      ∙ all-mono (place_in_range st.processes) (λ r. place_in_range st.processes (moved goes (in_clist p) r))
      (λ r e. pick r (goes r.number) e) st.rows s.rows.places-in-range
    where
      pick : (r : Row) (b : Bool) → place_in_range st.processes r ≡ true → place_in_range st.processes (cond b (with_place (in_clist p) r) r) ≡ true
      pick r true e = clist-in-range st s.placed p listed (with_place (in_clist p) r) (unfold with_place in refl)
      pick r false e = e

  fetched-in-range : fetched_in_range after.requests ≡ true
  unfolding fetched_in_range
  fetched-in-range =
      all_map mark_in_range (now_fetched v.number) st.requests
      ∙ all-mono mark_in_range (λ w. mark_in_range (now_fetched v.number w)) (λ w e. unfold now_fetched in pick w (eqb w.number v.number) e) st.requests s.loans.fetched-in-range
    where
      pick : (w : Request) (b : Bool) → mark_in_range w ≡ true → mark_in_range (cond b (with_fetched fetched_mark w) w) ≡ true
      pick w true e = refl
      pick w false e = e

  copies-listed : copies_listed after.requests after.rows ≡ true
  unfolding copies_listed
  copies-listed =
      all_map (copy_listed requests') (moved goes (in_clist p)) st.rows
      ∙ all-eq (λ r. copy_listed requests' (moved goes (in_clist p) r)) (copy_listed st.requests) step st.rows
      ∙ s.loans.copies-listed
    where
      step : (r : Row) → copy_listed requests' (moved goes (in_clist p) r) ≡ copy_listed st.requests r
      step r =
          moved_same goes (in_clist p) (copy_listed requests') (λ r. unfold copy_listed with_place in refl) r
          ∙ (unfold copy_listed in rw (request-now v.number st.requests r.request positive, now-lists v.number r.number (request_of st.requests r.request)) refl)

  older-fetched : older_fetched after.requests ≡ true
  unfolding older_fetched
  older-fetched = each_map (λ w. true) older_fetched_by older_fetched_by (now_fetched v.number) (λ w ws _ _ e. step w ws e) st.requests (every st.requests) s.holders.older-fetched
    where
      every : (ws : List Request) → all (λ w. true) ws ≡ true
      every ws = unfold all in elim ws as (λ us. all (λ w. true) us ≡ true) [ [] ↦ refl | (w ∷ (ws → ih)) ↦ ih ]

      items-same : (w : Request) → (now_fetched v.number w).items ≡ w.items
      items-same w = now-same v.number (λ w. w.items) (λ k v. refl) w

      shares : (w u : Request) → any (λ e. lists e (now_fetched v.number u)) (now_fetched v.number w).items ≡ any (λ e. lists e u) w.items
      shares w u =
          ap (any (λ e. lists e (now_fetched v.number u))) (items-same w)
          ∙ any-eq (λ e. lists e (now_fetched v.number u)) (λ e. lists e u) (λ e. now-lists v.number e u) w.items

      still : (u : Request) (b : Bool) → is_fetched u || b ≡ true → is_fetched (now_fetched v.number u) || b ≡ true
      still u true e = or_r (is_fetched (now_fetched v.number u)) true refl
      still u false e = or_l (is_fetched (now_fetched v.number u)) false (still-fetched v.number u (only (is_fetched u) e))
        where
          only : (a : Bool) → a || false ≡ true → a ≡ true
          only true e = refl
          only false e = e

      step : (w : Request) (ws : List Request) → older_fetched_by w ws ≡ true → older_fetched_by (now_fetched v.number w) (map (now_fetched v.number) ws) ≡ true
      step w ws e =
          unfold older_fetched_by in
          all_map (λ u. is_fetched u || not (any (λ e. lists e u) (now_fetched v.number w).items)) (now_fetched v.number) ws
          ∙ all-mono (λ u. is_fetched u || not (any (λ e. lists e u) w.items))
          (λ u. is_fetched (now_fetched v.number u) || not (any (λ e. lists e (now_fetched v.number u)) (now_fetched v.number w).items))
          (λ u q. rw (shares w u) (still u (not (any (λ e. lists e u) w.items)) q)) ws e

  system-holds : system_holds after.requests after.rows ≡ true
  unfolding system_holds
  system-holds =
      all_map (λ r. same (is_system r.place) (awaits_fetch requests' r.number)) (moved goes (in_clist p)) st.rows
      ∙ of-rows st.rows s.numbers.rows-rise (λ r. same (is_system (moved goes (in_clist p) r).place) (awaits_fetch requests' (moved goes (in_clist p) r).number)) (λ n m. pick n m (goes n) refl)
    where
      pick : (n : ℕ) → member n (numbers st.rows) ≡ true → (b : Bool) → goes n ≡ b
          → same (is_system (moved goes (in_clist p) (row_of st.rows n)).place) (awaits_fetch requests' (moved goes (in_clist p) (row_of st.rows n)).number) ≡ true
      pick n m true g =
          same-eq (is_system (moved goes (in_clist p) (row_of st.rows n)).place) (awaits_fetch requests' (moved goes (in_clist p) (row_of st.rows n)).number)
          (ap is_system (moved-goes goes (in_clist p) (row_of st.rows n) (ap goes (row_number st.rows n m) ∙ g))
          ∙ clist-not-system st s.placed p listed
          ∙ sym
          (ap (awaits_fetch requests') (moved-number goes (in_clist p) (row_of st.rows n) ∙ row_number st.rows n m)
          ∙ fetched-now v.number n st.requests (unfold older_fetched in s.holders.older-fetched) there (rw found unfetched) (rw found g)))
      pick n m false g =
          rw (moved-stays goes (in_clist p) (row_of st.rows n) (ap goes (row_number st.rows n m) ∙ g))
          (rw (row_number st.rows n m, awaits-same v.number n st.requests (unfold requests_rise in s.numbers.requests-rise) (rw found g))
          (held-so st.rows st.requests s.holders.system-holds n m))

  processes-placed : processes_placed after.rows after.processes ≡ true
  unfolding processes_placed
  processes-placed =
      placed-still st.rows rows'
      (λ e k hi sub at. same_place (row_of st.rows e) (row_of rows' e) (row_moved goes (in_clist p) none-goes st.rows e ∙ stays e k hi sub at)) st.processes s.placed
    where
      stays : (e k : ℕ) → k ≤ 64 → is_subdirectory (row_of st.rows e).kind ≡ true → (row_of st.rows e).place ≡ in_clist k → moved goes (in_clist p) (row_of st.rows e) ≡ row_of st.rows e
      stays e k hi sub at =
          let m : member e (numbers st.rows) ≡ true = subdirectory-there st.rows e sub in
          let in-clist : is_system (row_of st.rows e).place ≡ false = ap is_system at ∙ clist-no-system k hi in
          let g : goes e ≡ false =
          false_of (goes e)
          (λ g. clash (eq-same (is_system (row_of st.rows e).place) (awaits_fetch st.requests e) (held-so st.rows st.requests s.holders.system-holds e m) ∙ awaited e g) in-clist) in
          moved-stays goes (in_clist p) (row_of st.rows e) (ap goes (row_number st.rows e m) ∙ g)

  numbers-fetched : Numbers after.next after.rows after.requests
  unfolding requests_rise numbers_apart below_next next_in_range rows_fit requests_fit
  numbers-fetched =
      record {
        rows-rise = rows-rise;
        requests-rise = rises-map (λ v. v.number) (now_fetched v.number) (now-number v.number) st.requests ∙ s.numbers.requests-rise;
        numbers-apart = requests-all (λ v. not (member v.number (numbers rows'))) (λ k v. refl) (rw numbers-same s.numbers.numbers-apart);
        below-next =
            rw (
              top-map (λ r. r.number) no_row (moved goes (in_clist p)) (moved-number goes (in_clist p)) st.rows,
              top-map (λ v. v.number) no_request (now_fetched v.number) (now-number v.number) st.requests,
            )
            s.numbers.below-next;
        next-in-range = s.numbers.next-in-range;
        rows-fit = rw (length-map st.rows (moved goes (in_clist p))) s.numbers.rows-fit;
        requests-fit = rw (length-map st.requests (now_fetched v.number)) s.numbers.requests-fit;
      }

  rows-fetched : RowsSound after.rows after.requests after.processes
  unfolding objects_in_range rights_in_range sources_right depths_right copies_match ends_paired
  rows-fetched =
      record {
        objects-in-range = objects-moved goes (in_clist p) none-goes st.processes st.rows ∙ s.rows.objects-in-range;
        rights-in-range = rights-moved goes (in_clist p) none-goes st.rows ∙ s.rows.rights-in-range;
        places-in-range = places-in-range;
        sources-right =
            sources-moved goes (in_clist p) none-goes (clist-not-node p) st.requests requests' st.rows may-move
            (λ r _. ap (λ w. w.port) (request-now v.number st.requests r.request positive) ∙ now-same v.number (λ w. w.port) (λ k v. refl) (request_of st.requests r.request))
            s.loans.copies-listed s.rows.sources-right;
        depths-right = sourced-moved goes (in_clist p) none-goes has_right_depth depth-placeless st.rows s.rows.depths-right;
        copies-match = sourced-moved goes (in_clist p) none-goes matches_source copy-placeless st.rows s.rows.copies-match;
        ends-paired =
            all_map (end_paired rows') (moved goes (in_clist p)) st.rows
            ∙ all-eq (λ r. end_paired rows' (moved goes (in_clist p) r)) (end_paired st.rows) (paired-moved goes (in_clist p) none-goes st.rows) st.rows
            ∙ s.rows.ends-paired;
      }

  loans-fetched : LoansSound after.rows after.requests after.processes
  unfolding ports_stand requesters_listed items_few items_apart items_lent one_per_port
  loans-fetched =
      record {
        fetched-in-range = fetched-in-range;
        ports-stand =
            requests-all (port_stands rows') (λ k v. unfold port_stands in refl)
            (all-eq (port_stands rows') (port_stands st.rows) (ports-moved goes (in_clist p) none-goes st.rows) st.requests ∙ s.loans.ports-stand);
        requesters-listed = requests-all (λ v. is_listed st.processes v.asker) (λ k v. refl) s.loans.requesters-listed;
        items-few = requests-all (λ v. eqb (length v.items) most_items) (λ k v. refl) s.loans.items-few;
        items-apart = requests-all (λ v. distinct (nonzero v.items)) (λ k v. refl) s.loans.items-apart;
        items-lent =
            requests-all (λ v. all (λ e. may_be_listed v (row_of rows' e)) (nonzero v.items)) (λ k v. unfold may_be_listed in refl)
            (all-eq (λ v. all (λ e. may_be_listed v (row_of rows' e)) (nonzero v.items)) (λ v. all (λ e. may_be_listed v (row_of st.rows e)) (nonzero v.items))
            (λ w. all-eq (λ e. may_be_listed w (row_of rows' e)) (λ e. may_be_listed w (row_of st.rows e)) (listed-moved goes (in_clist p) none-goes st.rows w) (nonzero w.items)) st.requests
            ∙ s.loans.items-lent);
        one-per-port = ap distinct (keys-map (λ v. v.port) (now_fetched v.number) (now-same v.number (λ w. w.port) (λ k v. refl)) st.requests) ∙ s.loans.one-per-port;
        copies-listed = copies-listed;
      }

  holders-fetched : HoldersSound after.rows after.requests
  holders-fetched =
      record {
        older-fetched = older-fetched;
        system-holds = system-holds;
      }

  processes-fetched : ProcessesSound after.rows after.processes
  unfolding records_fit records_in_range
  processes-fetched =
      record {
        records-fit = s.placed.records-fit;
        records-in-range = s.placed.records-in-range;
        processes-placed = processes-placed;
      }

  fetched-sound : Sound after
  fetched-sound = record { numbers = numbers-fetched; rows = rows-fetched; loans = loans-fetched; holders = holders-fetched; placed = processes-fetched }

-- the request open on a port is found by its number
pub open-found : (vs : List Request) (c : ℕ) → rises (λ v. v.number) vs ≡ true → some (open_on vs c).number ≡ true → request_of vs (open_on vs c).number ≡ open_on vs c
unfolding open_on request_of
open-found vs c r t = other-same (λ v. v.number) no_request (λ v. v.port) (unfold no_request in refl) vs r c t

pub open-there : (vs : List Request) (c : ℕ) → some (open_on vs c).number ≡ true → member (open_on vs c).number (map (λ v. v.number) vs) ≡ true
unfolding open_on
open-there vs c t = other-there (λ v. v.number) no_request (λ v. v.port) (unfold no_request in refl) vs c t

-- the request that the server of a port sees
pub asked-found : (st : State) → rises (λ v. v.number) st.requests ≡ true → (e : ℕ) → some (asked_of st e).number ≡ true → request_of st.requests (asked_of st e).number ≡ asked_of st e
unfolding asked_of
asked-found st r e t = open-found st.requests (row_of st.rows e).object r t

pub asked-there : (st : State) (e : ℕ) → some (asked_of st e).number ≡ true → member (asked_of st e).number (map (λ v. v.number) st.requests) ≡ true
unfolding asked_of
asked-there st e t = open-there st.requests (row_of st.rows e).object t

pub fetch-kept : (st : State) → Sound st → (p e : ℕ) → FetchAllowed st p e → Sound (handed_over p (asked_of st e) st)
unfolding handed_over handed_to moved requests_rise
fetch-kept st s p e a =
    let t = a.serves.asked in
    fetched-sound st s p (asked_of st e) (asked-found st s.numbers.requests-rise e t) (asked-there st e t) a.unfetched a.serves.caller
