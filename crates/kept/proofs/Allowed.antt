-- What the failed tests of a call leave, with what its line and the tables say: one record a call.
use Prim.Native.Nat.{ℕ, suc, ◌+◌, ◌<◌, ◌≤◌}
use mathlib.Core.Bool.{Bool, true, false, not, ◌&&◌}
use mathlib.Core.List.{List, map}
use mathlib.Core.Path.{◌≡◌, ap, ◌∙◌}
use lib.Dec.{leb, eqb}
use lib.ListN.{length}
use borrow.Author.Tests.{eqb-true, leb-false}
use Rattle.rows.specs.Lists.{any, all, member, distinct, some}
use Rattle.rows.specs.Limits.{all_rights, greatest_number, row_slots, request_slots, most_items}
use Rattle.rows.specs.Codes.{is_operation, is_subdirectory, is_client, is_server, is_end, in_node, in_clist, is_node, may_hold, may_register}
use Rattle.rows.specs.Tables.{State, row_of, request_of, process_at, is_listed, numbers, on_loan, is_lent}
use Rattle.rows.specs.Sound.{is_fetched}
use Rattle.rows.proofs.Bools.{and_i, not_f, or-fl, or-fr, all-and, all_filter, not-zero}
use Rattle.rows.proofs.Lists.{filter_passes, none-all}
use Rattle.rows.proofs.RowSources.{node-there}
use Rattle.tables.proofs.Sound.{Sound}
use Rattle.tables.proofs.SoundFacts.{active-node, clist-there}
use Rattle.calls.specs.declared.Item.{Item}
use Rattle.calls.specs.Rules.{not_held, has_open, asked_of, too_deep, rows_full, requests_full, numbers_spent}
use Rattle.calls.specs.Loans.{moves, copies, copy_depth}
use Rattle.calls.specs.Calls.{held_depth, registered_depth, port_depth, in_use, lacks_right, is_busy, refusals_go, refusals_hold, refusals_register, refusals_drop, refusals_port, refusals_close, refusals_ask, refusals_fetch, refusals_answer, refusals_revoke, refusals_comes, refusals_chain}
use Rattle.kept.proofs.AddRow.{rows-room, numbers-room}
use Rattle.kept.proofs.AskCopy.{lendable}
use Rattle.kept.proofs.Judged.{Passed}

-- e is a row in the c-list of p
pub record InHand (st : State) (p e : ℕ) : Type 0 where
  pub place : eqb (row_of st.rows e).place (in_clist p) ≡ true
  pub there : member e (numbers st.rows) ≡ true

pub in-hand : (st : State) (p e : ℕ) → not_held st p e ≡ false → InHand st p e
unfolding not_held
in-hand st p e h = let q = not_f (eqb (row_of st.rows e).place (in_clist p)) h in record { place = q; there = clist-there st.rows p e q }

-- ---- go
pub record GoAllowed (st : State) (p e : ℕ) : Type 0 where
  pub caller : is_listed st.processes p ≡ true
  pub row : eqb e 0 ≡ false → InHand st p e
  pub subdirectory : eqb e 0 ≡ false → is_subdirectory (row_of st.rows e).kind ≡ true

pub go-allowed : (st : State) (p e : ℕ) → is_listed st.processes p ≡ true → Passed (refusals_go st p e) → GoAllowed st p e
unfolding refusals_go Passed
go-allowed st p e l w =
    record { caller = l; row = λ z. in-hand st p e (rw z at w).0; subdirectory = λ z. not_f (is_subdirectory (row_of st.rows e).kind) (rw z at w).1.0 }

-- ---- hold
pub record HoldAllowed (st : State) (p s : ℕ) : Type 0 where
  pub caller : is_listed st.processes p ≡ true
  pub active : (row_of st.rows s).place ≡ in_node (process_at st.processes p).active
  pub node : is_node (row_of st.rows s).place ≡ true
  pub there : member s (numbers st.rows) ≡ true
  pub right : may_hold (row_of st.rows s).rights ≡ true
  pub unlent : is_subdirectory (row_of st.rows s).kind && (some (process_at st.processes p).through && is_lent st (process_at st.processes p).through) ≡ false
  pub depth : too_deep (held_depth st p s) ≡ false
  pub rows-free : rows_full st 1 ≡ false
  pub numbers-free : numbers_spent st 1 ≡ false

pub hold-allowed : (st : State) → Sound st → (p s : ℕ) → is_listed st.processes p ≡ true → Passed (refusals_hold st p s) → HoldAllowed st p s
unfolding refusals_hold Passed in_node
hold-allowed st sound p s l w =
    let r = row_of st.rows s in
    let here : r.place ≡ (process_at st.processes p).active = eqb-true r.place (process_at st.processes p).active (not_f _ w.0) in
    let n : is_node r.place ≡ true = ap is_node here ∙ active-node st sound.placed p l in
    record {
      caller = l;
      active = here;
      node = n;
      there = node-there st.rows s n;
      right = not_f (may_hold r.rights) w.1.0;
      unlent = w.1.1.0;
      depth = w.1.1.1.0;
      rows-free = w.1.1.1.1.0;
      numbers-free = w.1.1.1.1.1.0;
    }

-- ---- register
pub record RegisterAllowed (st : State) (p e : ℕ) : Type 0 where
  pub caller : is_listed st.processes p ≡ true
  pub row : InHand st p e
  pub no_end : is_end (row_of st.rows e).kind ≡ false
  pub right : may_register (row_of st.rows e).rights ≡ true
  pub unlent : is_lent st e ≡ false
  pub depth : too_deep (registered_depth st e) ≡ false
  pub rows-free : rows_full st 1 ≡ false
  pub numbers-free : numbers_spent st 1 ≡ false

pub register-allowed : (st : State) (p e : ℕ) → is_listed st.processes p ≡ true → Passed (refusals_register st p e) → RegisterAllowed st p e
unfolding refusals_register Passed
register-allowed st p e l w =
    record {
      caller = l;
      row = in-hand st p e w.0;
      no_end = w.1.0;
      right = not_f (may_register (row_of st.rows e).rights) w.1.1.0;
      unlent = w.1.1.1.0;
      depth = w.1.1.1.1.0;
      rows-free = w.1.1.1.1.1.0;
      numbers-free = w.1.1.1.1.1.1.0;
    }

-- ---- drop
pub record DropAllowed (st : State) (p e : ℕ) : Type 0 where
  pub caller : is_listed st.processes p ≡ true
  pub row : InHand st p e
  pub no_end : is_end (row_of st.rows e).kind ≡ false
  pub unused : in_use st p e ≡ false

pub drop-allowed : (st : State) (p e : ℕ) → is_listed st.processes p ≡ true → Passed (refusals_drop st p e) → DropAllowed st p e
unfolding refusals_drop Passed
drop-allowed st p e l w = record { caller = l; row = in-hand st p e w.0; no_end = w.1.0; unused = w.1.1.0 }

-- ---- port
pub record PortAllowed (st : State) (p e : ℕ) : Type 0 where
  pub caller : is_listed st.processes p ≡ true
  pub row : InHand st p e
  pub operation : is_operation (row_of st.rows e).kind ≡ true
  pub depth : too_deep (port_depth st e) ≡ false
  pub rows-free : rows_full st 2 ≡ false
  pub numbers-free : numbers_spent st 2 ≡ false

pub port-allowed : (st : State) (p e : ℕ) → is_listed st.processes p ≡ true → Passed (refusals_port st p e) → PortAllowed st p e
unfolding refusals_port Passed
port-allowed st p e l w =
    record {
      caller = l;
      row = in-hand st p e w.0;
      operation = not_f (is_operation (row_of st.rows e).kind) w.1.0;
      depth = w.1.1.0;
      rows-free = w.1.1.1.0;
      numbers-free = w.1.1.1.1.0;
    }

-- ---- close
pub record CloseAllowed (st : State) (p c : ℕ) : Type 0 where
  pub caller : is_listed st.processes p ≡ true
  pub row : InHand st p c
  pub client : is_client (row_of st.rows c).kind ≡ true
  pub back : on_loan st.requests c ≡ false

pub close-allowed : (st : State) (p c : ℕ) → is_listed st.processes p ≡ true → Passed (refusals_close st p c) → CloseAllowed st p c
unfolding refusals_close Passed
close-allowed st p c l w = record { caller = l; row = in-hand st p c w.0; client = not_f (is_client (row_of st.rows c).kind) w.1.0; back = w.1.1.0 }

-- ---- ask: of the line, its items are few, named once, with rights in range
pub record AskAllowed (st : State) (p c : ℕ) (is : List Item) : Type 0 where
  pub caller : is_listed st.processes p ≡ true
  pub few : length is ≤ most_items
  pub rows-some : all (λ i. some i.row) is ≡ true
  pub rows_apart : distinct (map (λ i. i.row) is) ≡ true
  pub port : InHand st p c
  pub held : all (λ i. not (not_held st p i.row)) is ≡ true
  pub client : is_client (row_of st.rows c).kind ≡ true
  pub lent : all (lendable st p c) (copies st is) ≡ true
  pub free : has_open st c ≡ false
  pub idle : any (is_busy st c) is ≡ false
  pub rows-room : length st.rows + length (copies st is) ≤ row_slots
  pub requests-room : length st.requests < request_slots
  pub numbers-room : st.next + suc (length (copies st is)) ≤ suc greatest_number

module _ (st : State) (p c : ℕ) (is : List Item) where
  both : (f g : Item → Bool) (xs : List Item) → all f xs ≡ true → all g xs ≡ true → all (λ x. f x && g x) xs ≡ true
  both f g xs a b = all-and f g (λ x. f x && g x) (λ x. and_i (f x) (g x)) xs a b

  -- what holds of all items holds of those copied
  of-copies : (f : Item → Bool) → all f is ≡ true → all f (copies st is) ≡ true
  unfolding copies
  of-copies f a = all_filter (λ i. not (moves st i)) f is a

  all-lendable : all (λ i. not (not_held st p i.row)) is ≡ true → any (lacks_right st) is ≡ false
      → any (λ i. too_deep (copy_depth st c i)) (copies st is) ≡ false → all (λ i. leb i.rights all_rights) is ≡ true → all (lendable st p c) (copies st is) ≡ true
  unfolding lendable
  all-lendable held right deep within =
      let xs = copies st is in
      both (λ i. not (moves st i)) _ xs (unfold copies in filter_passes (λ i. not (moves st i)) is)
      (both (λ i. not (not_held st p i.row)) _ xs (of-copies _ held)
      (both (λ i. not (lacks_right st i)) _ xs (of-copies _ (none-all (lacks_right st) is right))
      (both (λ i. not (too_deep (copy_depth st c i))) (λ i. leb i.rights all_rights) xs (none-all (λ i. too_deep (copy_depth st c i)) xs deep) (of-copies _ within))))

  pub ask-allowed : is_listed st.processes p ≡ true → length is ≤ most_items → all (λ i. some i.row) is ≡ true
      → all (λ i. leb i.rights all_rights) is ≡ true → distinct (map (λ i. i.row) is) ≡ true → Passed (refusals_ask st p c is) → AskAllowed st p c is
  unfolding refusals_ask Passed requests_full
  ask-allowed l few rows-some within rows_apart w =
      let held : all (λ i. not (not_held st p i.row)) is ≡ true = none-all (λ i. not_held st p i.row) is (or-fr (not_held st p c) (any (λ i. not_held st p i.row) is) w.0) in
      record {
        caller = l;
        few = few;
        rows-some = rows-some;
        rows_apart = rows_apart;
        port = in-hand st p c (or-fl (not_held st p c) (any (λ i. not_held st p i.row) is) w.0);
        held = held;
        client = not_f (is_client (row_of st.rows c).kind) w.1.0;
        lent = all-lendable held w.1.1.0 w.1.1.1.1.0 within;
        free = or-fl (has_open st c) (any (is_busy st c) is) w.1.1.1.0;
        idle = or-fr (has_open st c) (any (is_busy st c) is) w.1.1.1.0;
        rows-room = rows-room st (length (copies st is)) w.1.1.1.1.1.0;
        requests-room = leb-false request_slots (length st.requests) w.1.1.1.1.1.1.0;
        numbers-room = numbers-room st (suc (length (copies st is))) w.1.1.1.1.1.1.1.0;
      }

-- ---- fetch, answer: the server end of a port, and the request that its server sees
pub record ServerAllowed (st : State) (p e : ℕ) : Type 0 where
  pub caller : is_listed st.processes p ≡ true
  pub row : InHand st p e
  pub server : is_server (row_of st.rows e).kind ≡ true
  pub asked : some (asked_of st e).number ≡ true

pub record FetchAllowed (st : State) (p e : ℕ) : Type 0 where
  pub serves : ServerAllowed st p e
  pub unfetched : is_fetched (asked_of st e) ≡ false

module _ (st : State) (p e : ℕ) (l : is_listed st.processes p ≡ true) where
  serving : not_held st p e ≡ false → not (is_server (row_of st.rows e).kind) ≡ false → eqb (asked_of st e).number 0 ≡ false → ServerAllowed st p e
  serving h k z = record { caller = l; row = in-hand st p e h; server = not_f (is_server (row_of st.rows e).kind) k; asked = not-zero (asked_of st e).number z }

  pub fetch-allowed : Passed (refusals_fetch st p e) → FetchAllowed st p e
  unfolding refusals_fetch Passed
  fetch-allowed w =
      let v = asked_of st e in
      let none = eqb v.number 0 in
      record { serves = serving w.0 w.1.0 (or-fl none (is_fetched v) w.1.1.0); unfetched = or-fr none (is_fetched v) w.1.1.0 }

  -- whether it was served or not
  pub answer-allowed : (served : Bool) → Passed (refusals_answer st p e served) → ServerAllowed st p e
  unfolding refusals_answer Passed
  answer-allowed served w = serving w.0 w.1.0 (or-fl (eqb (asked_of st e).number 0) (served && not (is_fetched (asked_of st e))) w.1.1.1.0)

-- ---- revoke: of the line, the request has a number
pub record RevokeAllowed (st : State) (p q : ℕ) : Type 0 where
  pub caller : is_listed st.processes p ≡ true
  pub number : some q ≡ true
  pub asked : eqb (request_of st.requests q).number 0 ≡ false
  pub asker : eqb (request_of st.requests q).asker p ≡ true

pub revoke-allowed : (st : State) (p q : ℕ) → is_listed st.processes p ≡ true → some q ≡ true → Passed (refusals_revoke st p q) → RevokeAllowed st p q
unfolding refusals_revoke Passed
revoke-allowed st p q l n w =
    let v = request_of st.requests q in
    let none = eqb v.number 0 in
    let other = not (eqb v.asker p) in
    record { caller = l; number = n; asked = or-fl none other w.0; asker = not_f (eqb v.asker p) (or-fr none other w.0) }

-- ---- comes
pub record ComesAllowed (st : State) (e q : ℕ) : Type 0 where
  pub row : eqb (row_of st.rows e).number 0 ≡ false
  pub asked : eqb (request_of st.requests q).number 0 ≡ false

pub comes-allowed : (st : State) (e q : ℕ) → Passed (refusals_comes st e q) → ComesAllowed st e q
unfolding refusals_comes Passed
comes-allowed st e q w =
    let none = eqb (row_of st.rows e).number 0 in
    let closed = eqb (request_of st.requests q).number 0 in
    record { row = or-fl none closed w.0; asked = or-fr none closed w.0 }

-- ---- chain
pub record ChainAllowed (st : State) (e : ℕ) : Type 0 where
  pub row : eqb (row_of st.rows e).number 0 ≡ false

pub chain-allowed : (st : State) (e : ℕ) → Passed (refusals_chain st e) → ChainAllowed st e
unfolding refusals_chain Passed
chain-allowed st e w = record { row = w.0 }
