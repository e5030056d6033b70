-- What sound tables tell of one row that is found and of one listed process.
use Prim.Native.Nat.{ℕ, zero, suc, pred, ◌+◌, ◌-◌, ◌<◌, ◌≤◌}
use mathlib.Core.Bool.{Bool, true, false, not, cond, ◌&&◌, ◌||◌}
use mathlib.Core.List.{List, [], ◌∷◌}
use mathlib.Core.Path.{◌≡◌, refl, sym, ap, ◌∙◌}
use mathlib.Core.Logic.{⊎_elim}
use lib.Dec.{leb, ltb, eqb}
use lib.ListN.{length, get_or, get_or-eq_default}
use borrow.Author.Tests.{eqb-true, ltb-true, lt-ltb}
use native.Mathlib.Decide.{dec_lt}
use native.Mathlib.Omega.{arith}
use Rattle.rows.specs.declared.Row.{Row}
use Rattle.rows.specs.declared.Request.{Request}
use Rattle.rows.specs.declared.Process.{Process}
use Rattle.rows.specs.Lists.{any, all, first_with, top_of, rises, member, between, some}
use Rattle.rows.specs.Limits.{processes, nodes, greatest_operation}
use Rattle.rows.specs.Codes.{operation, subdirectory, client_end, server_end, is_operation, is_subdirectory, is_client, is_server, is_end, is_copied, in_clist, is_node, is_clist, is_system, owner_of}
use Rattle.rows.specs.Tables.{State, no_row, no_process, row_of, process_at, is_listed, numbers, sources, reaches, on_loan, lent_itself, is_lent}
use Rattle.rows.specs.Sound.{rows_rise, requests_rise, below_next, records_fit, object_in_range, objects_in_range, right_in_range, rights_in_range, place_in_range, is_opening, is_registered, is_held, is_port_end, is_lent_copy, record_unused, record_in_range, records_in_range, is_paired_with, other_end, end_paired, ends_paired, same, process_placed, placed_from, processes_placed, source_of, via_of}
use Rattle.rows.proofs.Bools.{clash, and_l, and_r, and_i, or_cases, or_l, or_r, or-fl, or-fr, or-false, not_t, zero-none, eqb-sym-f, all-mono, or_map}
use Rattle.rows.proofs.Keyed.{first_key, all_first, rises-rest, rises-first, rises-range}
use Rattle.rows.proofs.Lists.{all_get_d}
use Rattle.tables.proofs.Sound.{Numbers, RowsSound, ProcessesSound}
use Rattle.rows.proofs.RowSources.{Shape, opening, registered, held, port-end, lent-copy, row-there, client-there}
use Rattle.rows.proofs.Places.{range-between, clist-no-system, clist-no-row, client-is-end}

-- ---- the test of two tests
pub same-eq : (a b : Bool) → a ≡ b → same a b ≡ true
unfolding same
same-eq true b e = rw (← e) refl
same-eq false b e = rw (← e) refl

pub eq-same : (a b : Bool) → same a b ≡ true → a ≡ b
unfolding same
eq-same true true e = refl
eq-same true false e = sym e
eq-same false true e = e
eq-same false false e = refl

-- ---- numbers
pub row_number : (rs : List Row) (n : ℕ) → member n (numbers rs) ≡ true → (row_of rs n).number ≡ n
unfolding numbers row_of
row_number rs n t = first_key (λ r. r.number) no_row rs n t

-- keys that rise are above 0, and below what is above the first
rises-between : {A : Type 0} (key : A → ℕ) (b : ℕ) (xs : List A) → rises key xs ≡ true → top_of key xs < b → all (λ x. some (key x) && ltb (key x) b) xs ≡ true
unfolding all top_of some
rises-between key b [] e h = refl
rises-between key b (x ∷ xs) e h =
    let lt = rises-first key x xs e in
    and_i (ltb 0 (key x) && ltb (key x) b) (all (λ x. ltb 0 (key x) && ltb (key x) b) xs) (and_i (ltb 0 (key x)) (ltb (key x) b) (lt-ltb 0 (key x) (omega arith)) (lt-ltb (key x) b h))
    (rises-between key b xs (rises-rest key x xs e) (omega arith))

module _ (st : State) (s : Numbers st.next st.rows st.requests) where
  pub rows-top : top_of (λ r. r.number) st.rows < st.next
  unfolding below_next
  rows-top =
      ltb-true (top_of (λ r. r.number) st.rows) st.next
      (and_l (ltb (top_of (λ r. r.number) st.rows) st.next) (ltb (top_of (λ v. v.number) st.requests) st.next) s.below-next)

  pub requests-top : top_of (λ v. v.number) st.requests < st.next
  unfolding below_next
  requests-top =
      ltb-true (top_of (λ v. v.number) st.requests) st.next
      (and_r (ltb (top_of (λ r. r.number) st.rows) st.next) (ltb (top_of (λ v. v.number) st.requests) st.next) s.below-next)

  pub next-some : 0 < st.next
  next-some = let h = rows-top in omega arith

  -- the numbers of the rows, of the requests are above 0 and below the next number
  pub row_below : (n : ℕ) → member n (numbers st.rows) ≡ true → (0 < n) × (n < st.next)
  unfolding rows_rise numbers
  row_below n t =
      let (lo, hi) = rises-range (λ r. r.number) st.rows s.rows-rise n t in
      let h = rows-top in (lo, omega arith)

  pub requests-between : all (λ v. some v.number && ltb v.number st.next) st.requests ≡ true
  unfolding requests_rise
  requests-between = rises-between (λ v. v.number) st.next st.requests s.requests-rise requests-top

  pub requests-below : all (λ v. ltb v.number st.next) st.requests ≡ true
  requests-below =
      all-mono (λ v. some v.number && ltb v.number st.next) (λ v. ltb v.number st.next) (λ v e. and_r (some v.number) (ltb v.number st.next) e) st.requests requests-between

-- ---- a row that is found
pub clist-there : (rs : List Row) (p e : ℕ) → eqb (row_of rs e).place (in_clist p) ≡ true → member e (numbers rs) ≡ true
clist-there rs p e t = row-there (λ r. eqb r.place (in_clist p)) (clist-no-row p) rs e t

module _ (st : State) (s : RowsSound st.rows st.requests st.processes) (e : ℕ) (t : member e (numbers st.rows) ≡ true) where
  pub row-object : object_in_range st.processes (row_of st.rows e) ≡ true
  unfolding objects_in_range row_of numbers
  row-object = all_first (λ r. r.number) no_row (object_in_range st.processes) st.rows e s.objects-in-range t

  pub row-right : right_in_range (row_of st.rows e) ≡ true
  unfolding rights_in_range row_of numbers
  row-right = all_first (λ r. r.number) no_row right_in_range st.rows e s.rights-in-range t

  -- the other end of an end
  pub paired_at : is_end (row_of st.rows e).kind ≡ true → is_paired_with (row_of st.rows e) (row_of st.rows (other_end (row_of st.rows e))) ≡ true
  unfolding ends_paired row_of end_paired numbers
  paired_at k = pick (all_first (λ r. r.number) no_row (end_paired st.rows) st.rows e s.ends-paired t)
    where
      pick : not (is_end (row_of st.rows e).kind) || is_paired_with (row_of st.rows e) (row_of st.rows (other_end (row_of st.rows e))) ≡ true
          → is_paired_with (row_of st.rows e) (row_of st.rows (other_end (row_of st.rows e))) ≡ true
      pick h = rw k at h

-- a client end and its server end, which has the next number
pub client-paired : (st : State) → RowsSound st.rows st.requests st.processes → (c : ℕ) → is_client (row_of st.rows c).kind ≡ true
    → is_paired_with (row_of st.rows c) (row_of st.rows (suc c)) ≡ true
unfolding other_end
client-paired st s c k =
    let r : Row = row_of st.rows c in
    let t : member c (numbers st.rows) ≡ true = client-there st.rows c k in
    let other : cond (is_client r.kind) (suc r.number) (pred r.number) ≡ suc c = ap (λ b. cond b (suc r.number) (pred r.number)) k ∙ ap suc (row_number st.rows c t) in
    ap (λ n. is_paired_with r (row_of st.rows n)) (sym other) ∙ paired_at st s c t (client-is-end r.kind k)

-- ---- what a row names, by its kind
module _ (ps : List Process) (r : Row) (t : object_in_range ps r ≡ true) where
  -- the manager of an operation row is listed
  pub manager-listed : is_operation r.kind ≡ true → is_listed ps r.object ≡ true
  unfolding object_in_range is_operation is_subdirectory is_client is_server operation subdirectory client_end server_end
  manager-listed k =
      let u : is_listed ps r.object && leb r.operation greatest_operation || false ≡ true = rw (eqb-true r.kind 1 k) at t in
      and_l (is_listed ps r.object) _ (sym (or-false _) ∙ u)

  -- a subdirectory row names a node
  pub subdirectory-node : is_subdirectory r.kind ≡ true → is_node r.object ≡ true
  unfolding object_in_range is_operation is_subdirectory is_client is_server operation subdirectory client_end server_end is_node
  subdirectory-node k =
      let u : between 1 nodes r.object && eqb r.operation 0 || false ≡ true = rw (eqb-true r.kind 2 k) at t in
      and_l (between 1 nodes r.object) _ (sym (or-false _) ∙ u)

  -- the number of a client end is that of its port, of a server end that plus 1
  pub client-object : is_client r.kind ≡ true → r.object ≡ r.number
  unfolding object_in_range is_server is_operation is_subdirectory is_client operation subdirectory client_end server_end
  client-object k =
      let u : eqb r.object r.number && eqb r.operation 0 || false ≡ true = rw (eqb-true r.kind 3 k) at t in
      eqb-true r.object r.number (and_l (eqb r.object r.number) _ (sym (or-false _) ∙ u))

  pub server-object : is_server r.kind ≡ true → suc r.object ≡ r.number
  unfolding object_in_range is_server is_operation is_subdirectory is_client operation subdirectory client_end server_end
  server-object k =
      let u : eqb (suc r.object) r.number && eqb r.operation 0 ≡ true = rw (eqb-true r.kind 4 k) at t in
      eqb-true (suc r.object) r.number (and_l (eqb (suc r.object) r.number) _ u)

-- ---- what a row is by its place and kind
pub in-node-copied : (vs : List Request) (rs : List Row) (r : Row) → Shape vs r (source_of rs r) (via_of rs r) → is_node r.place ≡ true → is_copied r.kind ≡ true
unfolding is_opening is_registered is_held is_port_end is_lent_copy
in-node-copied vs rs r (opening u) n = search (and_l, and_r)
in-node-copied vs rs r (registered u) n = search (and_l, and_r)
in-node-copied vs rs r (held u) n = search (and_l, and_r)
in-node-copied vs rs r (port-end u) n = let w : not (is_node r.place) ≡ true = search (and_l, and_r) in clash n (not_t (is_node r.place) w)
in-node-copied vs rs r (lent-copy u) n = search (and_l, and_r)

pub not-lent-held : (vs : List Request) (rs : List Row) (r : Row) → Shape vs r (source_of rs r) (via_of rs r) → is_node r.place ≡ false
    → is_end r.kind ≡ false → some r.request ≡ false → is_held r (source_of rs r) (via_of rs r) ≡ true
unfolding is_opening is_registered is_port_end is_lent_copy
not-lent-held vs rs r (opening u) n k q = clash (and_l (is_node r.place) _ u) n
not-lent-held vs rs r (registered u) n k q = clash (and_l (is_node r.place) _ u) n
not-lent-held vs rs r (held u) n k q = u
not-lent-held vs rs r (port-end u) n k q = clash (and_l (is_end r.kind) _ u) k
not-lent-held vs rs r (lent-copy u) n k q = clash (and_l (some r.request) _ u) q

-- a row that is not lent bears no request's number
reached-itself : (f : Row → Bool) (rs : List Row) (e : ℕ) → member e (numbers rs) ≡ true → reaches f rs e ≡ false → f (row_of rs e) ≡ false
unfolding reaches row_of first_with numbers member
reached-itself f [] e t q = clash t refl
reached-itself f (r ∷ rs) e t q = pick (reached-itself f rs e) (eqb r.number e) refl t q
  where
    pick : (member e (numbers rs) ≡ true → reaches f rs e ≡ false → f (row_of rs e) ≡ false) → (b : Bool) → eqb r.number e ≡ b → eqb e r.number || member e (numbers rs) ≡ true
        → elim b [ true ↦ f r || any (λ s. reaches f rs s) (sources r) | false ↦ reaches f rs e ] ≡ false → f (cond b r (row_of rs e)) ≡ false
    pick ih true h t q = or-fl (f r) (any (λ s. reaches f rs s) (sources r)) q
    pick ih false h t q = ih (rw (eqb-sym-f r.number e h) at t) q

pub unlent-unborne : (st : State) (e : ℕ) → member e (numbers st.rows) ≡ true → is_lent st e ≡ false → some (row_of st.rows e).request ≡ false
unfolding is_lent lent_itself
unlent-unborne st e t q =
    or-fr (is_end (row_of st.rows e).kind && on_loan st.requests (row_of st.rows e).number) (some (row_of st.rows e).request) (reached-itself (lent_itself st.requests) st.rows e t q)

-- ---- the records, one by one
-- a listed process is 1 or more, and has a record
pub listed-has-record : (ps : List Process) (p : ℕ) → is_listed ps p ≡ true → (0 < p) × (p ≤ length ps)
unfolding is_listed process_at no_process some
listed-has-record ps zero h = clash h refl
listed-has-record ps (suc i) h = (omega arith, pick (dec_lt i (length ps)))
  where
    pick : Dec (i < length ps) → suc i ≤ length ps
    pick (yes lt) = lt
    pick (no ge) = let le : length ps ≤ i = omega arith in clash h (ap (λ x. some x.prime) (get_or-eq_default ps no_process le))

placed-none : (rs : List Row) (p : ℕ) → process_placed rs p no_process ≡ true
unfolding process_placed no_process
placed-none rs p = refl

pub placed-from : (rs : List Row) (xs : List Process) (k : ℕ) → placed_from rs k xs ≡ true → (i q : ℕ) → q ≡ k + i → process_placed rs q (get_or xs i no_process) ≡ true
unfolding placed_from
placed-from rs [] k t i q e = placed-none rs q
placed-from rs (x ∷ xs) k t zero q e =
    let z : q ≡ k = omega arith in ap (λ n. process_placed rs n x) z ∙ and_l (process_placed rs k x) (placed_from rs (suc k) xs) t
placed-from rs (x ∷ xs) k t (suc i) q e = placed-from rs xs (suc k) (and_r (process_placed rs k x) (placed_from rs (suc k) xs) t) i q (omega arith)

-- a row in the same place that is of the same kind and names the same: all that a process which went through it asks
pub record SamePlace (r r' : Row) : Type 0 where
  pub kind : r'.kind ≡ r.kind
  pub place : r'.place ≡ r.place
  pub object : r'.object ≡ r.object

pub same_place : (r r' : Row) → r' ≡ r → SamePlace r r'
same_place r r' e = record { kind = ap (λ r. r.kind) e; place = ap (λ r. r.place) e; object = ap (λ r. r.object) e }

-- every process stays placed, if the subdirectory rows in c-lists stay
module _ (rs rs' : List Row) (h : (e p : ℕ) → p ≤ 64 → is_subdirectory (row_of rs e).kind ≡ true → (row_of rs e).place ≡ in_clist p → SamePlace (row_of rs e) (row_of rs' e)) where
  placed-stays : (p : ℕ) (ps : List Process) → p + length ps ≤ 65 → placed_from rs p ps ≡ true → placed_from rs' p ps ≡ true
  unfolding placed_from
  placed-stays p [] b e = refl
  placed-stays p (x ∷ xs) b e =
      and_i (process_placed rs' p x) (placed_from rs' (suc p) xs) (placed (and_l (process_placed rs p x) (placed_from rs (suc p) xs) e))
      (placed-stays (suc p) xs (omega arith) (and_r (process_placed rs p x) (placed_from rs (suc p) xs) e))
    where
      rest : Row → Bool
      rest r = some x.through && (is_subdirectory r.kind && (eqb r.place (in_clist p) && eqb r.object x.active))

      stays : rest (row_of rs x.through) ≡ true → rest (row_of rs' x.through) ≡ true
      stays q =
          let k : is_subdirectory (row_of rs x.through).kind ≡ true = search (and_l, and_r) in
          let l : eqb (row_of rs x.through).place (in_clist p) ≡ true = search (and_l, and_r) in
          let same = h x.through p (omega arith) k (eqb-true (row_of rs x.through).place (in_clist p) l) in
          rw (same.kind, same.place, same.object) q

      placed : process_placed rs p x ≡ true → process_placed rs' p x ≡ true
      placed q =
          unfold process_placed in
          or_map (eqb x.through 0 && eqb x.active x.prime) (rest (row_of rs x.through)) (rest (row_of rs' x.through)) stays q

  pub placed-still : (ps : List Process) → ProcessesSound rs ps → processes_placed rs' ps ≡ true
  unfolding records_fit processes processes_placed
  placed-still ps s = let l : length ps ≡ 64 = eqb-true (length ps) 64 s.records-fit in placed-stays 1 ps (omega arith) s.processes-placed

-- ---- a listed process
module _ (st : State) (s : ProcessesSound st.rows st.processes) (p : ℕ) (l : is_listed st.processes p ≡ true) where
  pub listed-range : (0 < p) × (p ≤ 64)
  unfolding records_fit processes
  listed-range =
      let fits : length st.processes ≡ 64 = eqb-true (length st.processes) 64 s.records-fit in
      let (lo, hi) = listed-has-record st.processes p l in (lo, omega arith)

  pub clist-is : is_clist (in_clist p) ≡ true
  unfolding is_clist in_clist processes
  clist-is = let (lo, hi) = listed-range in range-between (100 + 1) (100 + 64) (100 + p) (omega arith) (omega arith)

  pub clist-not-system : is_system (in_clist p) ≡ false
  clist-not-system = let (lo, hi) = listed-range in clist-no-system p hi

  pub clist-owned : is_clist (in_clist p) && is_listed st.processes (owner_of (in_clist p)) ≡ true
  unfolding owner_of in_clist
  clist-owned =
      let z : 100 + p - 100 ≡ p = omega arith in
      and_i (is_clist (100 + p)) (is_listed st.processes (100 + p - 100)) clist-is (ap (is_listed st.processes) z ∙ l)

  pub clist-in-range : (r : Row) → r.place ≡ in_clist p → place_in_range st.processes r ≡ true
  unfolding place_in_range
  clist-in-range r e =
      or_r (is_node r.place) _ (or_l _ (is_system r.place) (ap (λ n. is_clist n && is_listed st.processes (owner_of n)) e ∙ clist-owned))

  -- its record
  record-at : (q : ℕ) → record_in_range (process_at st.processes q) ≡ true
  unfolding records_in_range record_in_range record_unused process_at no_process
  record-at zero = refl
  record-at (suc i) = all_get_d record_in_range st.processes s.records-in-range i no_process refl

  nodes-right : (x : Process) → some x.prime ≡ true → record_in_range x ≡ true → between 1 nodes x.prime && between 1 nodes x.active ≡ true
  unfolding record_in_range record_unused
  nodes-right x l t = ⊎_elim (λ u. clash l (zero-none x.prime (and_l (eqb x.prime 0) _ u))) (λ u. u) (or_cases (record_unused x) _ t)

  pub prime-node : is_node (process_at st.processes p).prime ≡ true
  unfolding is_listed is_node
  prime-node = and_l (between 1 nodes (process_at st.processes p).prime) _ (nodes-right (process_at st.processes p) l (record-at p))

  pub active-node : is_node (process_at st.processes p).active ≡ true
  unfolding is_listed is_node
  active-node = and_r (between 1 nodes (process_at st.processes p).prime) _ (nodes-right (process_at st.processes p) l (record-at p))

  pub placed_at : process_placed st.rows p (process_at st.processes p) ≡ true
  unfolding processes_placed process_at
  placed_at = go p listed-range
    where
      go : (q : ℕ) → (0 < q) × (q ≤ 64) → process_placed st.rows q (process_at st.processes q) ≡ true
      go zero (h, h') = absurd (omega arith)
      go (suc i) h = placed-from st.rows st.processes 1 s.processes-placed i (suc i) (omega arith)
