-- Places: only ends are moved by a return, to a listed process; the system holds what awaits a fetch; each process is where it may be.
use Prim.Native.Nat.{ℕ}
use mathlib.Core.Bool.{Bool, true, false, not, cond, ◌&&◌, ◌||◌}
use mathlib.Core.List.{List, [], ◌∷◌, map}
use mathlib.Core.Path.{◌≡◌, refl, sym, ap, ◌∙◌, subst}
use mathlib.Core.Logic.{⊎_elim}
use lib.Dec.{ltb, eqb}
use borrow.Author.Tests.{eqb-true}
use Rattle.rows.specs.declared.Row.{Row}
use Rattle.rows.specs.declared.Request.{Request}
use Rattle.rows.specs.declared.Process.{Process}
use Rattle.rows.specs.Lists.{any, all, each, member, some}
use Rattle.rows.specs.Codes.{is_end, is_subdirectory, is_node, is_clist, is_system, in_clist, owner_of}
use Rattle.rows.specs.Tables.{State, no_row, no_request, row_of, request_of, is_listed, lists, numbers}
use Rattle.rows.specs.Sound.{requests_rise, place_in_range, places_in_range, may_be_listed, is_fetched, older_fetched_by, older_fetched, awaits_fetch, same, system_holds, processes_placed, requesters_listed}
use Rattle.rows.proofs.Bools.{false_of, clash, and_l, and_r, or_cases, or_r, or-fl, or-fr, or_map, all-mono, true-or-false, and-rf, and-true}
use Rattle.rows.proofs.Keyed.{first-none}
use Rattle.tables.proofs.Sound.{HoldersSound, ProcessesSound, Sound}
use Rattle.tables.proofs.SoundFacts.{row_number, clist-not-system, clist-owned, requests-between}
use Rattle.rows.proofs.RowSources.{subdirectory-there}
use Rattle.rows.proofs.Places.{clist-not-node, subdirectory-no-end}
use Rattle.tables.proofs.Awaits.{older-listers, awaits-none}
use Rattle.closing.specs.Closing.{oldest_listing, returned, listed_in, leaves, homed, trimmed, remaining, settled}
use Rattle.rows.specs.Setters.{with_place}
use Rattle.closing.proofs.TrimmedLists.{any-first}
use Rattle.closing.specs.vocabulary.Marks.{Stands}
use Rattle.closing.proofs.Facts.{IsOpen, end-at, request-number, listed-right}
use Rattle.closing.proofs.RemovedRows.{Closed}
use Rattle.closing.proofs.Lookups.{trimmed-lists, all-remaining, returned-keeps, returned-same, oldest-all, returned-place, nothing-returned, row-after, all_left}
use Rattle.closing.proofs.Processes.{listed_kept, placed-kept, records-fit-kept, records-in-range-kept}
use Rattle.kept.proofs.ClosingRequests.{older-fetched-remain}

-- ---- whose newest request is not fetched
module _ (f : Request → Bool) (g : List ℕ) (n : ℕ) where
  -- what no closing request lists is listed as before
  awaits-same : member n g ≡ false → (vs : List Request) → listed_in f vs n ≡ false → awaits_fetch (remaining f g vs) n ≡ awaits_fetch vs n
  unfolding remaining awaits_fetch listed_in any is_fetched leaves
  awaits-same k [] h = refl
  awaits-same k (v ∷ vs) h = pick (awaits-same k vs (or-fr (f v && lists n v) (listed_in f vs n) h)) (f v) refl (or-fl (f v && lists n v) (listed_in f vs n) h)
    where
      listed : lists n (trimmed f g vs v) ≡ lists n v
      listed = trimmed-lists f g vs v n ∙ ap (λ b. lists n v && not b) stays ∙ and-true (lists n v)
        where
          stays : leaves f g vs n ≡ false
          stays = ap (λ b. b || listed_in f vs n) k ∙ or-fr (f v && lists n v) (listed_in f vs n) h

      pick : awaits_fetch (remaining f g vs) n ≡ awaits_fetch vs n → (b : Bool) → f v ≡ b → b && lists n v ≡ false
          → awaits_fetch (cond b (remaining f g vs) (trimmed f g vs v ∷ remaining f g vs)) n ≡ cond (lists n v) (not (eqb v.fetched 1)) (awaits_fetch vs n)
      pick ih true q u = rw u ih
      pick ih false q u = rw (listed, ih) (unfold trimmed in refl)

  skips : (v : Request) (vs : List Request) → lists n v ≡ false → awaits_fetch (v ∷ vs) n ≡ awaits_fetch vs n
  unfolding awaits_fetch
  skips v vs e = rw e refl

  -- what a closing request lists is left to fetched ones
  awaits-returned : (vs : List Request) → each older_fetched_by vs ≡ true → listed_in f vs n ≡ true → awaits_fetch (remaining f g vs) n ≡ false
  unfolding remaining each listed_in any leaves
  awaits-returned [] o h = clash h refl
  awaits-returned (v ∷ vs) o h = pick (awaits-returned vs (and_r (older_fetched_by v vs) (each older_fetched_by vs) o)) (f v) (listed_in f vs n) refl h
    where
      fewer : (ws : List Request) (w : Request) → f w ≡ false → is_fetched w || not (lists n w) ≡ true → is_fetched (trimmed f g ws w) || not (lists n (trimmed f g ws w)) ≡ true
      fewer ws w q e =
          let fetched : is_fetched (trimmed f g ws w) ≡ is_fetched w = unfold is_fetched trimmed in refl in
          rw (fetched, trimmed-lists f g ws w n) (or_map (is_fetched w) (not (lists n w)) (not (lists n w && not (leaves f g ws n))) (weaker (lists n w) (not (leaves f g ws n))) e)
        where
          weaker : (a b : Bool) → not a ≡ true → not (a && b) ≡ true
          weaker true b e = clash e refl
          weaker false b e = refl

      pick : (listed_in f vs n ≡ true → awaits_fetch (remaining f g vs) n ≡ false) → (a b : Bool) → listed_in f vs n ≡ b → (a && lists n v) || b ≡ true
          → awaits_fetch (cond a (remaining f g vs) (trimmed f g vs v ∷ remaining f g vs)) n ≡ false
      pick ih true true q h = ih q
      pick ih true false q h =
          awaits-none n (remaining f g vs)
          (all-remaining f g (λ w. is_fetched w || not (lists n w)) (λ w. is_fetched w || not (lists n w)) fewer vs
          (older-listers n v vs (⊎_elim (λ l. l) (λ z. clash z refl) (or_cases (lists n v) false h)) (and_l (older_fetched_by v vs) (each older_fetched_by vs) o)))
      pick ih false true q h =
          skips (trimmed f g vs v) (remaining f g vs) (trimmed-lists f g vs v n ∙ ap (λ b. lists n v && not b) (or_r (member n g) (listed_in f vs n) q) ∙ and-rf (lists n v) false refl) ∙ ih q
      pick ih false false q h = clash h refl

-- ---- the c-list of a listed process
-- it is neither a node nor the system, and its owner is the process
record Clist (ps : List Process) (place : ℕ) : Type 0 where
  pub no_node : is_node place ≡ false
  pub no-system : is_system place ≡ false
  pub owned : is_clist place && is_listed ps (owner_of place) ≡ true

clist : (st : State) → Sound st → (p : ℕ) → is_listed st.processes p ≡ true → Clist st.processes (in_clist p)
clist st s p l = record { no_node = clist-not-node p; no-system = clist-not-system st s.placed p l; owned = clist-owned st s.placed p l }

module _ (g : List ℕ) (f : Request → Bool) (st : State) (s : Sound st) (c : Closed g f st) where
  requests-positive : all (λ v. some v.number) st.requests ≡ true
  requests-positive =
      all-mono (λ v. some v.number && ltb v.number st.next) (λ v. some v.number) (λ v e. and_l (some v.number) (ltb v.number st.next) e)
      st.requests (requests-between st s.numbers)

  -- ---- only ends are returned
  pub listed-end : (n : ℕ) → Stands st n → member n g ≡ false → listed_in f st.requests n ≡ true → is_end (row_of st.rows n).kind ≡ true
  unfolding requests_rise listed_in may_be_listed
  listed-end n t k h =
      let (q, o, p) = any-first (λ v. v.number) no_request (λ w. f w && lists n w) st.requests s.numbers.requests-rise h in
      pick q o (unfold request_of in p)
    where
      r : Row
      r = row_of st.rows n

      pick : (q : ℕ) → IsOpen st q → f (request_of st.requests q) && lists n (request_of st.requests q) ≡ true → is_end r.kind ≡ true
      pick q o p =
          let v : Request = request_of st.requests q in
          let closes : f v ≡ true = and_l (f v) (lists n v) p in
          let right : may_be_listed v r ≡ true = listed-right st s q o n (and_r (f v) (lists n v) p) in
          ⊎_elim (λ e. and_l (is_end r.kind) (ltb r.number v.number) e)
          (λ e. let sm : some r.request ≡ true = and_l (some r.request) (eqb r.request v.number) e in
          let z : r.request ≡ q = eqb-true _ _ (and_r (some r.request) (eqb r.request v.number) e) ∙ request-number st q o in
          clash (ap (λ m. f (request_of st.requests m)) z ∙ closes) (c.request-stays n t k sm))
          (or_cases (is_end r.kind && ltb r.number v.number) (some r.request && eqb r.request v.number) right)

  -- what no closing request lists is as it was
  unlisted-same : (n : ℕ) → Stands st n → listed_in f st.requests n ≡ false → returned f st.requests (row_of st.rows n) ≡ row_of st.rows n
  unlisted-same n t h = returned-same f st.requests (row_of st.rows n) (ap (listed_in f st.requests) (row_number st.rows n t) ∙ h)

  pub no-end-same : (n : ℕ) → Stands st n → member n g ≡ false → is_end (row_of st.rows n).kind ≡ false → returned f st.requests (row_of st.rows n) ≡ row_of st.rows n
  no-end-same n t k e = unlisted-same n t (false_of _ (λ h. clash (listed-end n t k h) e))

  -- what one lists is in the c-list of a listed process
  listed-clist : (n : ℕ) → Stands st n → listed_in f st.requests n ≡ true → Clist st.processes (returned f st.requests (row_of st.rows n)).place
  unfolding requesters_listed
  listed-clist n t h =
      let l : listed_in f st.requests (row_of st.rows n).number ≡ true = ap (listed_in f st.requests) (row_number st.rows n t) ∙ h in
      let asker : is_listed st.processes (oldest_listing f (row_of st.rows n).number st.requests).asker ≡ true =
      oldest-all f (row_of st.rows n).number (λ v. is_listed st.processes v.asker) st.requests requests-positive s.loans.requesters-listed l in
      subst (Clist st.processes) (sym (returned-place f st.requests (row_of st.rows n) requests-positive l))
      (clist st s (oldest_listing f (row_of st.rows n).number st.requests).asker asker)

  -- a row is in a node if it was
  pub node_kept : (n : ℕ) → member n g ≡ false → is_node (returned f st.requests (row_of st.rows n)).place ≡ is_node (row_of st.rows n).place
  unfolding row_of numbers
  node_kept n k = ⊎_elim stands (λ e. ap (λ r. is_node r.place) (absent e)) (true-or-false (member n (numbers st.rows)))
    where
      absent : member n (numbers st.rows) ≡ false → returned f st.requests (row_of st.rows n) ≡ row_of st.rows n
      absent e =
          let z : row_of st.rows n ≡ no_row = first-none (λ r. r.number) no_row st.rows n e in
          ap (returned f st.requests) z ∙ nothing-returned f st.requests ∙ sym z

      stands : Stands st n → is_node (returned f st.requests (row_of st.rows n)).place ≡ is_node (row_of st.rows n).place
      stands t =
          ⊎_elim (λ h. (listed-clist n t h).no_node ∙ sym (end-at st s n t (listed-end n t k h)).no_node) (λ h. ap (λ r. is_node r.place) (unlisted-same n t h))
          (true-or-false (listed_in f st.requests n))

  -- ---- the clauses
  pub places-in-range-kept : places_in_range (settled g f st).processes (settled g f st).rows ≡ true
  unfolding places_in_range
  places-in-range-kept = unfold settled in all_left g f st (place_in_range st.processes) (place_in_range (map (homed g) st.processes)) s.numbers.rows-rise at_row s.rows.places-in-range
    where
      in-range : (r : Row) → place_in_range st.processes r ≡ true → place_in_range (map (homed g) st.processes) r ≡ true
      in-range r e = unfold place_in_range in rw (listed_kept g st.processes (owner_of r.place)) e

      at_row : (n : ℕ) → Stands st n → member n g ≡ false → place_in_range st.processes (row_of st.rows n) ≡ true
          → place_in_range (map (homed g) st.processes) (returned f st.requests (row_of st.rows n)) ≡ true
      at_row n t k e =
          ⊎_elim (λ h. in-range (returned f st.requests (row_of st.rows n)) (moved n (listed-clist n t h)))
          (λ h. in-range _ (ap (place_in_range st.processes) (unlisted-same n t h) ∙ e)) (true-or-false (listed_in f st.requests n))
        where
          moved : (n : ℕ) → Clist st.processes (returned f st.requests (row_of st.rows n)).place → place_in_range st.processes (returned f st.requests (row_of st.rows n)) ≡ true
          moved n x = unfold place_in_range in rw (x.no_node, x.owned) refl

  system-holds-kept : system_holds (settled g f st).requests (settled g f st).rows ≡ true
  unfolding system_holds older_fetched
  system-holds-kept =
      unfold settled in all_left g f st (λ r. same (is_system r.place) (awaits_fetch st.requests r.number))
      (λ r. same (is_system r.place) (awaits_fetch (remaining f g st.requests) r.number)) s.numbers.rows-rise at_row s.holders.system-holds
    where
      R : ℕ → Row
      R n = returned f st.requests (row_of st.rows n)

      number : (n : ℕ) → Stands st n → (R n).number ≡ n
      number n t = returned-keeps (λ r. r.number) (unfold with_place in λ p r. refl) f st.requests (row_of st.rows n) ∙ row_number st.rows n t

      at_row : (n : ℕ) → Stands st n → member n g ≡ false → same (is_system (row_of st.rows n).place) (awaits_fetch st.requests (row_of st.rows n).number) ≡ true
          → same (is_system (R n).place) (awaits_fetch (remaining f g st.requests) (R n).number) ≡ true
      at_row n t k e =
          ⊎_elim
          (λ h. let a : is_system (R n).place ≡ false = (listed-clist n t h).no-system in
          let b : awaits_fetch (remaining f g st.requests) (R n).number ≡ false =
          ap (awaits_fetch (remaining f g st.requests)) (number n t) ∙ awaits-returned f g n st.requests s.holders.older-fetched h in
          ap (λ x. same x (awaits_fetch (remaining f g st.requests) (R n).number)) a ∙ ap (same false) b ∙ (unfold same in refl))
          (λ h. let a : R n ≡ row_of st.rows n = unlisted-same n t h in
          let b : awaits_fetch (remaining f g st.requests) (R n).number ≡ awaits_fetch st.requests (row_of st.rows n).number =
          ap (awaits_fetch (remaining f g st.requests)) (number n t) ∙ awaits-same f g n k st.requests h ∙ ap (awaits_fetch st.requests) (sym (row_number st.rows n t)) in
          ap (same (is_system (R n).place)) b ∙ ap (λ r. same (is_system r.place) (awaits_fetch st.requests (row_of st.rows n).number)) a ∙ e)
          (true-or-false (listed_in f st.requests n))

  processes-placed-kept : processes_placed (settled g f st).rows (settled g f st).processes ≡ true
  unfolding processes_placed
  processes-placed-kept = unfold settled in placed-kept g st.rows (settled g f st).rows unmoved 1 st.processes s.placed.processes-placed
    where
      unmoved : (n : ℕ) → member n g ≡ false → is_subdirectory (row_of st.rows n).kind ≡ true → row_of (settled g f st).rows n ≡ row_of st.rows n
      unmoved n k e =
          row-after g f st n k ∙ no-end-same n (subdirectory-there st.rows n e) k (subdirectory-no-end (row_of st.rows n).kind e)

  pub holders-kept : HoldersSound (settled g f st).rows (settled g f st).requests
  unfolding older_fetched settled
  holders-kept = record { older-fetched = older-fetched-remain f g st.requests s.holders.older-fetched; system-holds = system-holds-kept }

  pub processes-kept : ProcessesSound (settled g f st).rows (settled g f st).processes
  processes-kept =
      record {
        records-fit = records-fit-kept g f st s.placed.records-fit;
        records-in-range = records-in-range-kept g f st s.placed.records-in-range;
        processes-placed = processes-placed-kept;
      }
