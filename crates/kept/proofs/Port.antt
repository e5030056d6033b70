-- port keeps the tables sound: it adds the two ends.
use Prim.Native.Nat.{ℕ, suc, pred, ◌+◌, ◌≤◌}
use mathlib.Core.Bool.{true, false, not}
use mathlib.Core.List.{List, [], ◌∷◌}
use mathlib.Core.Path.{◌≡◌, refl, ap}
use lib.Dec.{eqb}
use lib.ListN.{length}
use borrow.Author.Tests.{ne_eqb}
use native.Mathlib.Omega.{arith}
use Rattle.rows.specs.declared.Row.{Row}
use Rattle.rows.specs.declared.Process.{Process}
use Rattle.rows.specs.Lists.{all, first_with}
use Rattle.rows.specs.Limits.{greatest_number, row_slots}
use Rattle.rows.specs.Codes.{operation, subdirectory, client_end, server_end, is_operation, is_subdirectory, is_client, is_server, is_end, in_clist, is_node}
use Rattle.rows.specs.Tables.{State, row_of, is_listed, depth_over}
use Rattle.rows.specs.Sound.{object_in_range, right_in_range, is_opening, is_registered, is_held, is_port_end, is_paired_with, other_end, end_paired, has_right_sources, matches_source, source_of, via_of}
use Rattle.rows.proofs.Bools.{and_i, or_l, or_r, eqb-self}
use Rattle.tables.proofs.Sound.{Sound}
use Rattle.tables.proofs.SoundFacts.{row_below, next-some, clist-not-system, clist-in-range, row-object, manager-listed}
use Rattle.rows.proofs.Places.{clist-not-node}
use Rattle.calls.specs.Rules.{too_deep}
use Rattle.calls.specs.Calls.{port_end, with_port}
use Rattle.kept.proofs.AddRow.{row_before, New, Added, added_none, added-one, added-sound, rows-room, numbers-room}
use Rattle.kept.proofs.Allowed.{PortAllowed}
use Rattle.kept.proofs.Stand.{depth_is}

-- an end from operation row e is a new row
module _ (st : State) (s : Sound st) (rs : List Row) (e d : ℕ) where
  end-new : (kind n c p : ℕ) → is_end kind ≡ true → object_in_range st.processes (port_end kind n c (in_clist p) e d) ≡ true → is_listed st.processes p ≡ true
      → is_operation (row_of rs e).kind ≡ true
      → d ≡ depth_over rs e 0 → too_deep d ≡ false → New st rs n (port_end kind n c (in_clist p) e d)
  unfolding port_end right_in_range has_right_sources is_port_end matches_source
  end-new kind n c p k o l h z t =
      let r = port_end kind n c (in_clist p) e d in
      record {
        number = refl;
        object = o;
        right = rw k refl;
        place = clist-in-range st s.placed p l r refl;
        away = clist-not-system st s.placed p l;
        source =
            or_r (is_opening r) _ (or_r (is_registered r (source_of rs r)) _ (or_r (is_held r (source_of rs r) (via_of rs r)) _ (or_l (is_port_end r (source_of rs r)) _
            (and_i (is_end kind) _ k (and_i (not (is_node (in_clist p))) _ (ap not (clist-not-node p)) (and_i (is_operation (row_of rs e).kind) true h refl))))));
        depth = depth_is r rs z t;
        copy = or_r (eqb e 0) _ (or_l (is_end kind) _ k);
        unborne = refl;
      }

-- ---- the two ends of port n
client-object : (ps : List Process) (n place e d : ℕ) → object_in_range ps (port_end client_end n n place e d) ≡ true
unfolding object_in_range port_end is_operation is_subdirectory is_client is_server operation subdirectory client_end server_end
client-object ps n place e d = rw (eqb-self n) refl

server-object : (ps : List Process) (n place e d : ℕ) → object_in_range ps (port_end server_end (suc n) n place e d) ≡ true
unfolding object_in_range port_end is_operation is_subdirectory is_client is_server operation subdirectory client_end server_end
server-object ps n place e d = rw (eqb-self (suc n)) refl

-- each is the other's other end
ends-pair : (n p m e d : ℕ) (rs : List Row) → let client =
    port_end client_end n n p e d in let server = port_end server_end (suc n) n m e d in all (end_paired (server ∷ client ∷ rs)) (server ∷ client ∷ []) ≡ true
unfolding all end_paired is_paired_with other_end row_of first_with port_end is_end is_client is_server client_end server_end
ends-pair n p m e d rs =
    let z : pred (suc n) ≡ n = omega arith in
    rw (z, eqb-self (suc n), ne_eqb (suc n) n (λ q. omega arith), eqb-self n, eqb-self e, eqb-self n) refl

-- ---- port
pub port-kept : (st : State) → Sound st → (p e : ℕ) → PortAllowed st p e → Sound (with_port st p e)
unfolding with_port depth_over is_end is_client is_server client_end server_end
port-kept st s p e a =
    let rs = st.rows in
    let n = st.next in
    let there = a.row.there in
    let d = depth_over rs e 0 in
    let manager = (row_of rs e).object in
    let client = port_end client_end n n (in_clist p) e d in
    let server = port_end server_end (suc n) n (in_clist manager) e d in
    let room : length rs + 2 ≤ row_slots = rows-room st 2 a.rows-free in
    let left : n + 2 ≤ suc greatest_number = numbers-room st 2 a.numbers-free in
    let one : Added st (client ∷ []) (suc n) =
    added-one st [] n client (omega arith) (omega arith)
    (end-new st s rs e d client_end n n p refl (client-object st.processes n (in_clist p) e d) a.caller a.operation refl a.depth) (added_none st s) in
    let (lo, hi) = row_below st s.numbers e there in
    let at-e : row_of (client ∷ rs) e ≡ row_of rs e = row_before n rs (client ∷ []) one.new-numbers e hi in
    let at-0 : row_of (client ∷ rs) 0 ≡ row_of rs 0 = row_before n rs (client ∷ []) one.new-numbers 0 (next-some st s.numbers) in
    let two : Added st (server ∷ client ∷ []) (suc (suc n)) =
    added-one st (client ∷ []) (suc n) server (omega arith) (omega arith)
    (end-new st s (client ∷ rs) e d server_end (suc n) n manager refl (server-object st.processes n (in_clist manager) e d)
    (manager-listed st.processes (row_of rs e) (row-object st s.rows e there) a.operation) (rw at-e a.operation) (rw (at-e, at-0) refl) a.depth)
    one in
    added-sound st s (server ∷ client ∷ []) (suc (suc n)) two (ends-pair n (in_clist p) (in_clist manager) e d rs)
