-- The tests of go, hold, register and port once the look-up has found the row; and room for new rows.
use Rattle.std.specs.Prelude.{Option, is_some}
use Prim.Native.Nat.{ℕ, zero, suc, ◌+◌, ◌<◌, ◌≤◌}
use mathlib.Core.Bool.{Bool, true, false, cond, not, ◌&&◌, ◌||◌}
use mathlib.Core.List.{List, [], ◌∷◌}
use mathlib.Core.Path.{◌≡◌, refl, ap, sym, ◌∙◌}
use native.Mathlib.Omega.{arith}
use borrow.Author.Tests.{eq-eqb, ne_eqb, lt-ltb, le-ltb}
use lib.Dec.{eqb}
use lib.ListN.{length}
use Rattle.rows.specs.Lists.{any, member, some}
use Rattle.rows.specs.Limits.{greatest_number, row_slots, greatest_depth}
use Rattle.rows.specs.vocabulary.Sizes.{LAST-NEXT}
use Rattle.rows.specs.Codes.{subdirectory, client_end, server_end, is_subdirectory, is_operation, is_client, is_server, is_end, in_clist, in_node, may_hold, may_register}
use Rattle.rows.specs.Tables.{State, no_row, no_request, row_of, request_of, open_on, numbers, process_at, sources, on_loan, is_lent}
use Rattle.rows.specs.Sound.{is_fetched}
use Rattle.rows.specs.Layout.{row_slot}
use Rattle.rows.specs.vocabulary.Represents.{Represents}
use Rattle.rows.specs.vocabulary.Slots.{found_slot, request_slot, open_slot}
use Rattle.rows.proofs.Bools.{pos-some, zero-none, not-zero}
use Rattle.rows.proofs.Keyed.{rises-range}
use Rattle.rows.proofs.Slots.{represented-well, row-found, row-absent, request-found, request-absent, open-absent}
use Rattle.calls.specs.Rules.{Test, ◌when◌, lowest, not_held, has_open, asked_of, too_deep, rows_full, numbers_spent}
use Rattle.calls.specs.Calls.{refusals_go, refusals_hold, held_depth, refusals_register, registered_depth, refusals_port, port_depth, in_use, refusals_drop, refusals_close, refusals_fetch, refusals_revoke, refusals_comes, refusals_chain}
use Rattle.calls.proofs.Handed.{open-number}

-- ---- room for k rows of depth d
abbrev pub room_tests : State → ℕ → ℕ → List Test
room_tests st d k = 15 when too_deep d ∷ 16 when rows_full st k ∷ 18 when numbers_spent st k ∷ []

module _ (st : State) (n next d k : ℕ) (count : n ≡ length st.rows) (nx : st.next ≡ next) where
  pub too-deep : 12 < d → 15 ≡ lowest (room_tests st d k)
  unfolding lowest too_deep greatest_depth
  too-deep h = rw (lt-ltb 12 d h) refl

  module _ (deep : d ≤ 12) where
    pub rows-full : 1024 < n + k → 16 ≡ lowest (room_tests st d k)
    unfolding lowest too_deep greatest_depth rows_full row_slots
    rows-full h = rw (le-ltb 12 d deep, lt-ltb 1024 (length st.rows + k) (omega arith)) refl

    module _ (free : n + k ≤ 1024) where
      pub numbers-spent : LAST-NEXT < next + k → 18 ≡ lowest (room_tests st d k)
      unfolding lowest too_deep greatest_depth rows_full row_slots numbers_spent greatest_number
      numbers-spent h = rw (le-ltb 12 d deep, le-ltb 1024 (length st.rows + k) (omega arith), lt-ltb LAST-NEXT (st.next + k) (omega arith)) refl

      pub has_room : next + k ≤ LAST-NEXT → 0 ≡ lowest (room_tests st d k)
      unfolding lowest too_deep greatest_depth rows_full row_slots numbers_spent greatest_number
      has_room h = rw (le-ltb 12 d deep, le-ltb 1024 (length st.rows + k) (omega arith), le-ltb LAST-NEXT (st.next + k) (omega arith)) refl

-- ---- 7
pub held : (st : State) (p e : ℕ) → eqb (row_of st.rows e).place (in_clist p) ≡ true → not_held st p e ≡ false
unfolding not_held
held st p e h = ap not h

pub not-held : (st : State) (p e : ℕ) → eqb (row_of st.rows e).place (in_clist p) ≡ false → not_held st p e ≡ true
unfolding not_held
not-held st p e h = ap not h

-- ---- go
module _ (st : State) (p e : ℕ) where
  pub go-home-allowed : e ≡ 0 → 0 ≡ lowest (refusals_go st p e)
  unfolding refusals_go lowest
  go-home-allowed z = rw (eq-eqb e 0 z) refl

  module _ (some-row : e ≡ 0 → ⊥) where
    pub go-seven : not_held st p e ≡ true → 7 ≡ lowest (refusals_go st p e)
    unfolding refusals_go lowest
    go-seven h = rw (ne_eqb e 0 some-row, h) refl

    module _ (here : not_held st p e ≡ false) where
      pub go-eight : ((row_of st.rows e).kind ≡ 2 → ⊥) → 8 ≡ lowest (refusals_go st p e)
      unfolding refusals_go lowest is_subdirectory subdirectory
      go-eight h = rw (ne_eqb e 0 some-row, here, ne_eqb (row_of st.rows e).kind 2 h) refl

      pub go-allowed : (row_of st.rows e).kind ≡ 2 → 0 ≡ lowest (refusals_go st p e)
      unfolding refusals_go lowest is_subdirectory subdirectory
      go-allowed h = rw (ne_eqb e 0 some-row, here, eq-eqb (row_of st.rows e).kind 2 h) refl

-- ---- hold
module _ (st : State) (p s : ℕ) where
  abbrev pub in_active : Bool
  in_active = eqb (row_of st.rows s).place (in_node (process_at st.processes p).active)

  abbrev pub takes_lent : Bool
  takes_lent = is_subdirectory (row_of st.rows s).kind && (some (process_at st.processes p).through && is_lent st (process_at st.processes p).through)

  pub hold-seven : in_active ≡ false → 7 ≡ lowest (refusals_hold st p s)
  unfolding refusals_hold lowest
  hold-seven h = rw h refl

  pub hold-rest : in_active ≡ true
      → lowest (refusals_hold st p s) ≡ cond (not (may_hold (row_of st.rows s).rights)) 9 (cond takes_lent 12 (lowest (room_tests st (held_depth st p s) 1)))
  unfolding refusals_hold lowest
  hold-rest h = rw h refl

-- ---- register and port
module _ (st : State) (p e : ℕ) where
  pub register-seven : not_held st p e ≡ true → 7 ≡ lowest (refusals_register st p e)
  unfolding refusals_register lowest
  register-seven h = rw h refl

  pub register-rest : not_held st p e ≡ false
      → lowest (refusals_register st p e)
      ≡ cond (is_end (row_of st.rows e).kind) 8
      (cond (not (may_register (row_of st.rows e).rights)) 9 (cond (is_lent st e) 12 (lowest (room_tests st (registered_depth st e) 1))))
  unfolding refusals_register lowest
  register-rest h = rw h refl

  pub port-seven : not_held st p e ≡ true → 7 ≡ lowest (refusals_port st p e)
  unfolding refusals_port lowest
  port-seven h = rw h refl

  pub port-rest : not_held st p e ≡ false
      → lowest (refusals_port st p e) ≡ cond (not (is_operation (row_of st.rows e).kind)) 8 (lowest (room_tests st (port_depth st e) 2))
  unfolding refusals_port lowest
  port-rest h = rw h refl

-- nothing refuses a port only where the row is an operation
pub port-operation : (st : State) (p e : ℕ) → 0 ≡ lowest (refusals_port st p e) → is_operation (row_of st.rows e).kind ≡ true
unfolding refusals_port lowest
port-operation st p e h = pick (not_held st p e) (is_operation (row_of st.rows e).kind) _ h
  where
    pick : (a b : Bool) (k : ℕ) → 0 ≡ cond a 7 (cond (not b) 8 k) → b ≡ true
    pick true b k h = absurd (omega arith)
    pick false true k h = refl
    pick false false k h = absurd (omega arith)

-- ---- the first test
pub seven : (b : Bool) (ts : List Test) → b ≡ true → 7 ≡ lowest (7 when b ∷ ts)
unfolding lowest
seven b ts h = rw h refl

-- ---- close
pub close-rest : (st : State) (p c : ℕ) → not_held st p c ≡ false
    → lowest (refusals_close st p c) ≡ cond (not (is_client (row_of st.rows c).kind)) 8 (cond (on_loan st.requests c) 12 0)
unfolding refusals_close lowest
close-rest st p c h = rw h refl

-- ---- the request open on a port
module _ (st : State) (c : ℕ) where
  pub open_none : open_slot st.requests c ≡ 0 → eqb (open_on st.requests c).number 0 ≡ true
  unfolding no_request
  open_none h = rw (open-absent st.requests c h) refl

  pub open-some : {t : List ℕ} → Represents t st → (j : ℕ) → open_slot st.requests c ≡ suc j → eqb (open_on st.requests c).number 0 ≡ false
  open-some rep j h =
      let up = (represented-well rep).requests-rise in
      let v = open_on st.requests c in
      let there = (request-found st.requests v.number j (open-number st.requests up c j h)).0 in
      let (lo, hi) = rises-range (λ v. v.number) st.requests up v.number there in
      ne_eqb v.number 0 (λ z. omega arith)

  -- what the look-up tells
  pub open-told : {t : List ℕ} → Represents t st → (r : Option ℕ) → r ≡ found_slot (open_slot st.requests c) → is_some r ≡ has_open st c
  unfolding found_slot has_open
  open-told rep r found = ap is_some found ∙ pick (open_slot st.requests c) refl
    where
      pick : (j : ℕ) → open_slot st.requests c ≡ j → is_some (found_slot j) ≡ some (open_on st.requests c).number
      pick zero h = sym (zero-none (open_on st.requests c).number (open_none h))
      pick (suc j) h = sym (not-zero (open_on st.requests c).number (open-some rep j h))

-- ---- the request at a server end
module _ (st : State) (e : ℕ) where
  abbrev pub port_of : ℕ
  port_of = (row_of st.rows e).object

  pub asked-none : open_slot st.requests port_of ≡ 0 → eqb (asked_of st e).number 0 ≡ true
  unfolding asked_of
  asked-none h = open_none st port_of h

  pub asked-some : {t : List ℕ} → Represents t st → (j : ℕ) → open_slot st.requests port_of ≡ suc j → eqb (asked_of st e).number 0 ≡ false
  unfolding asked_of
  asked-some rep j h = open-some st port_of rep j h

  module _ (p : ℕ) (h : not_held st p e ≡ false) where
    pub fetch-rest : lowest (refusals_fetch st p e)
        ≡ cond (not (is_server (row_of st.rows e).kind)) 8 (cond (eqb (asked_of st e).number 0 || is_fetched (asked_of st e)) 11 0)
    unfolding refusals_fetch lowest
    fetch-rest = rw h refl

-- ---- the kind in the words of a slot
pub no-server : (k : ℕ) → (k ≡ 4 → ⊥) → not (is_server k) ≡ true
unfolding is_server server_end
no-server k h = ap not (ne_eqb k 4 h)

pub is-server : (k : ℕ) → k ≡ 4 → is_server k ≡ true
unfolding is_server server_end
is-server k h = eq-eqb k 4 h

pub no-client : (k : ℕ) → (k ≡ 3 → ⊥) → not (is_client k) ≡ true
unfolding is_client client_end
no-client k h = ap not (ne_eqb k 3 h)

pub is-client : (k : ℕ) → k ≡ 3 → is_client k ≡ true
unfolding is_client client_end
is-client k h = eq-eqb k 3 h

-- ---- revoke and comes
module _ (st : State) (p q : ℕ) where
  pub revoke-none : request_slot st.requests q ≡ 0 → 7 ≡ lowest (refusals_revoke st p q)
  unfolding refusals_revoke lowest no_request
  revoke-none h = rw (request-absent st.requests q h) refl

  pub revoke-other : ((request_of st.requests q).asker ≡ p → ⊥) → 7 ≡ lowest (refusals_revoke st p q)
  unfolding refusals_revoke lowest
  revoke-other h = rw (ne_eqb (request_of st.requests q).asker p h) (pick (eqb (request_of st.requests q).number 0))
    where
      pick : (b : Bool) → ◌≡◌ {A = ℕ} 7 (cond (b || true) 7 0)
      pick true = refl
      pick false = refl

  pub revoke-own : eqb (request_of st.requests q).number 0 ≡ false → (request_of st.requests q).asker ≡ p → 0 ≡ lowest (refusals_revoke st p q)
  unfolding refusals_revoke lowest
  revoke-own n h = rw (n, eq-eqb (request_of st.requests q).asker p h) refl

module _ (st : State) (e q : ℕ) where
  pub comes-no-row : row_slot st.rows e ≡ 0 → 7 ≡ lowest (refusals_comes st e q)
  unfolding refusals_comes lowest no_row
  comes-no-row h = rw (row-absent st.rows e h) refl

  pub comes-no-request : request_slot st.requests q ≡ 0 → 7 ≡ lowest (refusals_comes st e q)
  unfolding refusals_comes lowest no_request
  comes-no-request h = rw (request-absent st.requests q h) (pick (eqb (row_of st.rows e).number 0))
    where
      pick : (b : Bool) → ◌≡◌ {A = ℕ} 7 (cond (b || true) 7 0)
      pick true = refl
      pick false = refl

  pub comes-both : eqb (row_of st.rows e).number 0 ≡ false → eqb (request_of st.requests q).number 0 ≡ false → 0 ≡ lowest (refusals_comes st e q)
  unfolding refusals_comes lowest
  comes-both a b = rw (a, b) refl

module _ (st : State) (e : ℕ) where
  pub chain-no-row : row_slot st.rows e ≡ 0 → 7 ≡ lowest (refusals_chain st e)
  unfolding refusals_chain lowest no_row
  chain-no-row h = rw (row-absent st.rows e h) refl

  pub chain-row : eqb (row_of st.rows e).number 0 ≡ false → 0 ≡ lowest (refusals_chain st e)
  unfolding refusals_chain lowest
  chain-row a = rw a refl

-- what stands has a number
module _ {t : List ℕ} {st : State} (rep : Represents t st) where
  pub request-some : (q j : ℕ) → request_slot st.requests q ≡ suc j → (eqb (request_of st.requests q).number 0 ≡ false) × (some q ≡ true)
  request-some q j h =
      let (there, same, low) = request-found st.requests q j h in
      let (lo, hi) = rises-range (λ v. v.number) st.requests (represented-well rep).requests-rise q there in
      (ne_eqb (request_of st.requests q).number 0 (λ z. omega arith), pos-some q lo)

  pub row-some : (e i : ℕ) → row_slot st.rows e ≡ suc i → (eqb (row_of st.rows e).number 0 ≡ false) × (some e ≡ true)
  unfolding numbers
  row-some e i h =
      let (there, same, low) = row-found st.rows e i h in
      let (lo, hi) = rises-range (λ r. r.number) st.rows (represented-well rep).rows-rise e there in
      (ne_eqb (row_of st.rows e).number 0 (λ z. omega arith), pos-some e lo)

pub both-fail : {a b : Bool} → a ≡ false → b ≡ false → a || b ≡ false
both-fail p q = rw (p, q) refl

-- ---- drop
pub drop-rest : (st : State) (p e : ℕ) → not_held st p e ≡ false → lowest (refusals_drop st p e) ≡ cond (is_end (row_of st.rows e).kind) 8 (cond (in_use st p e) 13 0)
unfolding refusals_drop lowest
drop-rest st p e h = rw h refl

pub in-use : (st : State) (p e through : ℕ) (b : Bool) → b ≡ any (λ r. member e (sources r)) st.rows → (process_at st.processes p).through ≡ through
    → b || eqb through e ≡ in_use st p e
unfolding in_use
in-use st p e through b h x = rw (h, x) refl
