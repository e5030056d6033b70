-- What sound tables tell of one row: it is one of five, each with its sources; which sources are ends; which request is open on a port.
use Prim.Native.Nat.{ℕ, zero, suc, ◌+◌, ◌<◌}
use mathlib.Core.Bool.{Bool, true, false, not, cond, ◌&&◌, ◌||◌}
use mathlib.Core.List.{List, [], ◌∷◌, map}
use mathlib.Core.Path.{◌≡◌, refl, sym, ap, ◌∙◌}
use mathlib.Core.Logic.{◌⊎◌, inl, inr, ⊎_elim}
use lib.Dec.{ltb, eqb}
use lib.ListN.{get_or}
use native.Mathlib.Omega.{arith}
use borrow.Author.Tests.{eqb-true, ne_eqb}
use Rattle.rows.specs.declared.Row.{Row}
use Rattle.rows.specs.declared.Request.{Request}
use Rattle.rows.specs.declared.Process.{Process}
use Rattle.rows.specs.Lists.{filter, any, all, first_with, member, distinct, between, some, nonzero}
use Rattle.rows.specs.Limits.{processes, nodes}
use Rattle.rows.specs.Codes.{client_end, server_end, is_operation, is_subdirectory, is_client, is_server, is_end, is_copied, in_clist, with_system, is_node, is_clist, is_system, owner_of}
use Rattle.rows.specs.Tables.{State, no_row, no_request, no_process, row_of, request_of, open_on, process_at, is_listed, numbers, sources, lists}
use Rattle.rows.specs.Sound.{is_opening, is_registered, is_held, is_port_end, is_lent_copy, requests_rise, one_per_port, ports_stand, port_stands, may_be_listed, places_in_range, place_in_range, process_placed, processes_placed}
use Rattle.rows.proofs.Bools.{clash, false_of, and_l, and_r, or_cases, or_l, or_r, or-false, not_t, some-pos, zero-none, eqb-sym, eqb-self, member-here}
use Rattle.rows.proofs.Keyed.{first_key, first-there, all_first, rises-range}
use Rattle.kept.proofs.Loans.{no-request-lists}
use Rattle.calls.specs.Rules.{asked_of}
use Rattle.kept.proofs.Fetch.{asked-found, asked-there}
use Rattle.rows.proofs.Places.{copied-no-end, subdirectory-no-end, no-row-listed, between-range}
use Rattle.rows.proofs.RowSources.{row-there, Shape, opening, registered, held, port-end, lent-copy, node-there, subdirectory-there}
use Rattle.tables.proofs.Sound.{Sound}
use Rattle.tables.proofs.SoundFacts.{in-node-copied, placed_at, placed-from, requests-between}
use Rattle.closing.proofs.Facts.{listed-right}
use Rattle.tables.proofs.Standing.{standing-shape}
use Rattle.security.specs.Sessions.{IsRow, IsOpen}

pub filter_none : {A : Type 0} (f : A → Bool) (xs : List A) → all (λ x. not (f x)) xs ≡ true → filter f xs ≡ []
unfolding filter all
filter_none f [] e = refl
filter_none f (x ∷ xs) e = rw (not_t (f x) (and_l (not (f x)) _ e)) (filter_none f xs (and_r (not (f x)) _ e))

-- ---- the sources of a row
pub sources-cases : (P : ℕ → Bool) (r : Row) → any P (sources r) ≡ true
    → ((some r.source ≡ true) × (P r.source ≡ true)) ⊎ ((some r.via ≡ true) × (P r.via ≡ true))
unfolding sources nonzero filter any
sources-cases P r e = pick (some r.source) refl (some r.via) refl e
  where
    pick : (a : Bool) → some r.source ≡ a → (b : Bool) → some r.via ≡ b
        → any P (cond a (r.source ∷ cond b (r.via ∷ []) []) (cond b (r.via ∷ []) [])) ≡ true
        → ((some r.source ≡ true) × (P r.source ≡ true)) ⊎ ((some r.via ≡ true) × (P r.via ≡ true))
    pick true p true q e = ⊎_elim (λ t. inl (p, t)) (λ t. inr (q, sym (or-false (P r.via)) ∙ t)) (or_cases (P r.source) (P r.via || false) e)
    pick true p false q e = inl (p, sym (or-false (P r.source)) ∙ e)
    pick false p true q e = inr (q, sym (or-false (P r.via)) ∙ e)
    pick false p false q e = clash e refl

pub source-listed : (r : Row) → some r.source ≡ true → member r.source (sources r) ≡ true
unfolding sources nonzero filter
source-listed r e = rw e (member-here r.source _)

-- ---- the five kinds of rows
-- a row of the text: in a node, without a source
pub record IsText (r : Row) : Type 0 where
  pub node : is_node r.place ≡ true
  pub copied : is_copied r.kind ≡ true
  pub source : r.source ≡ 0
  pub via : r.via ≡ 0
  pub request : r.request ≡ 0

pub record IsRegistered (r s : Row) : Type 0 where
  pub node : is_node r.place ≡ true
  pub copied : is_copied r.kind ≡ true
  pub source : is_node s.place ≡ true
  pub via : r.via ≡ 0
  pub request : r.request ≡ 0

pub record IsHeld (r s v : Row) : Type 0 where
  pub clist : is_clist r.place ≡ true
  pub copied : is_copied r.kind ≡ true
  pub source : is_node s.place ≡ true
  pub via : (r.via ≡ 0) ⊎ (is_subdirectory v.kind ≡ true)
  pub request : r.request ≡ 0

pub record IsPortEnd (r s : Row) : Type 0 where
  pub is-end : is_end r.kind ≡ true
  pub no_node : is_node r.place ≡ false
  pub source : is_operation s.kind ≡ true
  pub via : r.via ≡ 0
  pub request : r.request ≡ 0

pub record IsCopy (vs : List Request) (r s v : Row) : Type 0 where
  pub bears : some r.request ≡ true
  pub no_node : is_node r.place ≡ false
  pub copied : is_copied r.kind ≡ true
  pub source : is_copied s.kind ≡ true
  pub via : is_client v.kind ≡ true
  pub port : (request_of vs r.request).port ≡ r.via

pub data Sort (vs : List Request) (r s v : Row) : Type 0 where
  text-row : IsText r → Sort vs r s v
  registered-row : IsRegistered r s → Sort vs r s v
  held-row : IsHeld r s v → Sort vs r s v
  end_row : IsPortEnd r s → Sort vs r s v
  copy : IsCopy vs r s v → Sort vs r s v

sort : (vs : List Request) (r s v : Row) → Shape vs r s v → Sort vs r s v
unfolding is_opening is_registered is_held is_port_end is_lent_copy
sort vs r s v (opening h) =
    text-row (record {
      node = search and_l;
      copied = search (and_l, and_r);
      source = eqb-true r.source 0 (search (and_l, and_r));
      via = eqb-true r.via 0 (search (and_l, and_r));
      request = eqb-true r.request 0 (search (and_l, and_r));
    })
sort vs r s v (registered h) =
    registered-row (record {
      node = search and_l;
      copied = search (and_l, and_r);
      source = search (and_l, and_r);
      via = eqb-true r.via 0 (search (and_l, and_r));
      request = eqb-true r.request 0 (search (and_l, and_r));
    })
sort vs r s v (held h) =
    held-row (record {
      clist = search and_l;
      copied = search (and_l, and_r);
      source = search (and_l, and_r);
      via =
          let either : eqb r.via 0 || is_subdirectory v.kind ≡ true = search (and_l, and_r) in
          ⊎_elim (λ z. inl (eqb-true r.via 0 z)) inr (or_cases (eqb r.via 0) (is_subdirectory v.kind) either);
      request = eqb-true r.request 0 (search (and_l, and_r));
    })
sort vs r s v (port-end h) =
    end_row (record {
      is-end = search and_l;
      no_node = not_t (is_node r.place) (search (and_l, and_r));
      source = search (and_l, and_r);
      via = eqb-true r.via 0 (search (and_l, and_r));
      request = eqb-true r.request 0 (search (and_l, and_r));
    })
sort vs r s v (lent-copy h) =
    copy (record {
      bears = search and_l;
      no_node = not_t (is_node r.place) (search (and_l, and_r));
      copied = search (and_l, and_r);
      source = search (and_l, and_r);
      via = search (and_l, and_r);
      port = eqb-true (request_of vs r.request).port r.via (search (and_l, and_r));
    })

pub operation-no-end : (k : ℕ) → is_operation k ≡ true → is_end k ≡ false
unfolding is_copied
operation-no-end k t = copied-no-end k (or_l (is_operation k) (is_subdirectory k) t)

module _ (st : State) (s : Sound st) where
  abbrev R : ℕ → Row
  R n = row_of st.rows n

  pub sort-of : (n : ℕ) → IsRow st n → Sort st.requests (R n) (R (R n).source) (R (R n).via)
  sort-of n t = sort _ _ _ _ (standing-shape st s.numbers s.rows n t)

  -- a row in a node is no end
  pub node-no-end : (n : ℕ) → is_node (R n).place ≡ true → is_end (R n).kind ≡ false
  node-no-end n e = copied-no-end (R n).kind (in-node-copied st.requests st.rows (R n) (standing-shape st s.numbers s.rows n (node-there st.rows n e)) e)

  -- no first source is an end
  pub source-no-end : (n : ℕ) → IsRow st n → some (R n).source ≡ true → is_end (R (R n).source).kind ≡ false
  source-no-end n t h = pick (sort-of n t)
    where
      pick : Sort st.requests (R n) (R (R n).source) (R (R n).via) → is_end (R (R n).source).kind ≡ false
      pick (text-row x) = let z = x.source in let l = some-pos (R n).source h in absurd (omega arith)
      pick (registered-row x) = node-no-end (R n).source x.source
      pick (held-row x) = node-no-end (R n).source x.source
      pick (end_row x) = operation-no-end (R (R n).source).kind x.source
      pick (copy x) = copied-no-end (R (R n).source).kind x.source

  -- a second source that is an end is the client end that a copy was lent over
  pub via-end : (n : ℕ) → IsRow st n → some (R n).via ≡ true → is_end (R (R n).via).kind ≡ true → IsCopy st.requests (R n) (R (R n).source) (R (R n).via)
  via-end n t h k = pick (sort-of n t)
    where
      none : (R n).via ≡ 0 → ⊥
      none z = let l = some-pos (R n).via h in omega arith

      pick : Sort st.requests (R n) (R (R n).source) (R (R n).via) → IsCopy st.requests (R n) (R (R n).source) (R (R n).via)
      pick (text-row x) = absurd (none x.via)
      pick (registered-row x) = absurd (none x.via)
      pick (held-row x) = ⊎_elim (λ z. absurd (none z)) (λ d. clash k (subdirectory-no-end (R (R n).via).kind d)) x.via
      pick (end_row x) = absurd (none x.via)
      pick (copy x) = x

-- ---- the request open on a port
-- keys that are apart: what is found by one key is found by the other
module _ {A : Type 0} (key by : A → ℕ) (none : A) where
  pub first-by-other : (xs : List A) → distinct (map by xs) ≡ true → (n : ℕ) → member n (map key xs) ≡ true
      → (first_with by none xs (by (first_with key none xs n)) ≡ first_with key none xs n) × (member (by (first_with key none xs n)) (map by xs) ≡ true)
  unfolding first_with member distinct
  first-by-other [] d n t = clash t refl
  first-by-other (x ∷ xs) d n t =
      pick (first-by-other xs (and_r (not (member (by x) (map by xs))) (distinct (map by xs)) d) n) (eqb (key x) n) refl t
    where
      found : A
      found = first_with key none xs n

      fresh : member (by x) (map by xs) ≡ false
      fresh = not_t (member (by x) (map by xs)) (and_l (not (member (by x) (map by xs))) (distinct (map by xs)) d)

      pick : (member n (map key xs) ≡ true → (first_with by none xs (by found) ≡ found) × (member (by found) (map by xs) ≡ true)) → (b : Bool) → eqb (key x) n ≡ b
          → eqb n (key x) || member n (map key xs) ≡ true
          → (cond (eqb (by x) (by (cond b x found))) x (first_with by none xs (by (cond b x found))) ≡ cond b x found)
          × (eqb (by (cond b x found)) (by x) || member (by (cond b x found)) (map by xs) ≡ true)
      pick ih true q t = (rw (eqb-self (by x)) refl, rw (eqb-self (by x)) refl)
      pick ih false q t =
          let u : member n (map key xs) ≡ true = rw (eqb-sym n (key x), q) at t in
          let (same, there) = ih u in
          let other : eqb (by x) (by found) ≡ false = false_of (eqb (by x) (by found)) (λ e. clash (ap (λ k. member k (map by xs)) (eqb-true (by x) (by found) e) ∙ there) fresh) in
          (rw other same, or_r (eqb (by found) (by x)) (member (by found) (map by xs)) there)

-- what a port has open is an open request, of that port
pub open-key : (vs : List Request) (c : ℕ) → some (open_on vs c).number ≡ true → (open_on vs c).port ≡ c
unfolding open_on no_request
open-key vs c t = first_key (λ v. v.port) no_request vs c (first-there (λ v. v.port) no_request (λ v. some v.number) (unfold some in refl) vs c t)

module _ (st : State) (s : Sound st) where
  pub request-low : (q : ℕ) → IsOpen st q → 0 < q
  unfolding requests_rise
  request-low q t = (rises-range (λ v. v.number) st.requests s.numbers.requests-rise q t).0

  -- of a port, the request that is open on it
  pub open_at : (q : ℕ) → IsOpen st q → open_on st.requests (request_of st.requests q).port ≡ request_of st.requests q
  unfolding open_on request_of one_per_port
  open_at q t = (first-by-other (λ v. v.number) (λ v. v.port) no_request st.requests s.loans.one-per-port q t).0

  -- the port of an open request is a client end
  pub port-client : (q : ℕ) → IsOpen st q → is_client (row_of st.rows (request_of st.requests q).port).kind ≡ true
  unfolding ports_stand request_of port_stands
  port-client q t =
      let v = request_of st.requests q in
      and_l (is_client (row_of st.rows v.port).kind) _ (all_first (λ v. v.number) no_request (port_stands st.rows) st.requests q s.loans.ports-stand t)

  -- what an open request lists is a row
  pub item-row : (q : ℕ) → IsOpen st q → (e : ℕ) → lists e (request_of st.requests q) ≡ true → IsRow st e
  item-row q t e l = row-there (may_be_listed (request_of st.requests q)) (no-row-listed (request_of st.requests q)) st.rows e (listed-right st s q t e l)

  -- an item is an end or bears a request's number
  pub item-moves : (q : ℕ) → IsOpen st q → (n : ℕ) → lists n (request_of st.requests q) ≡ true → (is_end (row_of st.rows n).kind ≡ true) ⊎ (some (row_of st.rows n).request ≡ true)
  unfolding may_be_listed
  item-moves q t n l =
      let r = row_of st.rows n in
      let v = request_of st.requests q in
      ⊎_elim (λ e. inl (and_l (is_end r.kind) _ e)) (λ e. inr (and_l (some r.request) _ e))
      (or_cases (is_end r.kind && ltb r.number v.number) (some r.request && eqb r.request v.number) (listed-right st s q t n l))

  -- an item that is no end bears the request's number
  pub borne-by : (q : ℕ) → IsOpen st q → (n : ℕ) → lists n (request_of st.requests q) ≡ true → is_end (row_of st.rows n).kind ≡ false
      → eqb (request_of st.requests q).number (row_of st.rows n).request ≡ true
  unfolding may_be_listed
  borne-by q t n l e =
      let r = row_of st.rows n in
      let v = request_of st.requests q in
      ⊎_elim (λ k. clash (and_l (is_end r.kind) _ k) e) (λ k. eqb-sym v.number r.request ∙ and_r (some r.request) _ k)
      (or_cases (is_end r.kind && ltb r.number v.number) (some r.request && eqb r.request v.number) (listed-right st s q t n l))

  -- what the server of a port sees listed, an open request lists
  pub asked-open : (e n : ℕ) → lists n (asked_of st e) ≡ true → some (asked_of st e).number ≡ true
  unfolding asked_of open_on
  asked-open e n l =
      let c = (row_of st.rows e).object in
      and_l (some (open_on st.requests c).number) _
      (all_first (λ v. v.port) no_request (λ v. some v.number && ltb v.number st.next) st.requests c (requests-between st s.numbers)
      (first-there (λ v. v.port) no_request (lists n) (no-request-lists n) st.requests c l))

  pub asked-lists : (e n : ℕ) → lists n (asked_of st e) ≡ true → (IsOpen st (asked_of st e).number) × (lists n (request_of st.requests (asked_of st e).number) ≡ true)
  unfolding requests_rise
  asked-lists e n l =
      let h = asked-open e n l in
      (asked-there st e h, ap (lists n) (asked-found st s.numbers.requests-rise e h) ∙ l)

-- ---- c-lists and records
pub clist-outside : (x : ℕ) → is_clist x ≡ true → is_node x ≡ false
unfolding is_clist is_node in_clist processes nodes
clist-outside x e = false_of (between 1 32 x) (λ n. let (a, b) = between-range (100 + 1) (100 + 64) x e in let (c, d) = between-range 1 32 x n in omega arith)

pub clist-no-system : (x : ℕ) → is_clist x ≡ true → is_system x ≡ false
unfolding is_clist is_system in_clist with_system processes
clist-no-system x e = let (lo, hi) = between-range (100 + 1) (100 + 64) x e in ne_eqb x 200 (λ z. omega arith)

owner-of : (p : ℕ) → owner_of (in_clist p) ≡ p
unfolding owner_of in_clist
owner-of p = omega arith

pub server-no-client : (k : ℕ) → is_server k ≡ true → is_client k ≡ false
unfolding is_server is_client server_end client_end
server-no-client k e = rw (eqb-true k 4 e) refl

-- a process that has a row in its c-list is listed
pub holder-listed : (st : State) → Sound st → (n : ℕ) → IsRow st n → (p : ℕ) → (row_of st.rows n).place ≡ in_clist p → is_clist (row_of st.rows n).place ≡ true → is_listed st.processes p ≡ true
unfolding places_in_range place_in_range row_of numbers
holder-listed st s n t p h c =
    let r = row_of st.rows n in
    let owner : owner_of r.place ≡ p = ap owner_of h ∙ owner-of p in
    ⊎_elim (λ k. clash k (clist-outside r.place c))
    (λ k. ⊎_elim (λ y. ap (is_listed st.processes) (sym owner) ∙ and_r (is_clist r.place) _ y) (λ y. clash y (clist-no-system r.place c))
    (or_cases (is_clist r.place && is_listed st.processes (owner_of r.place)) (is_system r.place) k))
    (or_cases (is_node r.place) _ (all_first (λ r. r.number) no_row (place_in_range st.processes) st.rows n s.rows.places-in-range t))

pub clist-apart : (p q : ℕ) → in_clist p ≡ in_clist q → p ≡ q
unfolding in_clist
clist-apart p q e = omega arith

-- the row that a process went through
pub record Through (st : State) (p e : ℕ) : Type 0 where
  pub there : IsRow st e
  pub place : (row_of st.rows e).place ≡ in_clist p
  pub kind : is_subdirectory (row_of st.rows e).kind ≡ true
  pub object : (row_of st.rows e).object ≡ (process_at st.processes p).active

pub through-at : (st : State) → Sound st → (p : ℕ) → some (process_at st.processes p).through ≡ true → Through st p (process_at st.processes p).through
unfolding process_placed process_at processes_placed no_process some
through-at st s zero h = clash h refl
through-at st s (suc i) h = pick (or_cases (eqb x.through 0 && eqb x.active x.prime) _ (placed-from st.rows st.processes 1 s.placed.processes-placed i (suc i) (omega arith)))
  where
    x : Process
    x = get_or st.processes i no_process

    r : Row
    r = row_of st.rows x.through

    pick : (eqb x.through 0 && eqb x.active x.prime ≡ true) ⊎ (some x.through && (is_subdirectory r.kind && (eqb r.place (in_clist (suc i)) && eqb r.object x.active)) ≡ true)
        → Through st (suc i) x.through
    pick (inl z) = clash h (zero-none x.through (and_l (eqb x.through 0) _ z))
    pick (inr u) =
        let k : is_subdirectory r.kind ≡ true = search (and_l, and_r) in
        record {
          there = subdirectory-there st.rows x.through k;
          place = eqb-true r.place (in_clist (suc i)) (search (and_l, and_r));
          kind = k;
          object = eqb-true r.object x.active (search (and_l, and_r));
        }

-- a process that went through none is in its prime node
pub in-prime-node : (st : State) → Sound st → (p : ℕ) → is_listed st.processes p ≡ true → (process_at st.processes p).through ≡ 0 → (process_at st.processes p).active ≡ (process_at st.processes p).prime
unfolding process_placed
in-prime-node st s p l z =
    let x = process_at st.processes p in
    ⊎_elim (λ y. eqb-true x.active x.prime (and_r (eqb x.through 0) _ y)) (λ y. let lt = some-pos x.through (and_l (some x.through) _ y) in absurd (omega arith))
    (or_cases (eqb x.through 0 && eqb x.active x.prime) _ (placed_at st s.placed p l))
