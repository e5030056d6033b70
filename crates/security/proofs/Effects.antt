-- The effects of accepted calls are of six kinds: nothing, a record, new rows, an ask, a fetch, a closing. Every law of calls goes by these.
use Prim.Native.Nat.{ℕ, suc, ◌+◌}
use native.Mathlib.Omega.{arith}
use mathlib.Core.Bool.{Bool, true, false, ◌&&◌}
use mathlib.Core.List.{List, [], ◌∷◌, ◌++◌}
use mathlib.Core.Path.{◌≡◌, refl, ap, sym, ◌∙◌, subst}
use lib.Dec.{eqb}
use lib.ListN.{length, get_or}
use Rattle.rows.specs.declared.Row.{Row}
use Rattle.rows.specs.declared.Request.{Request}
use Rattle.rows.specs.declared.Process.{Process}
use borrow.Author.Tests.{eqb-true, eq-eqb}
use Rattle.std.specs.Prelude.{if◌then◌else◌}
use Rattle.rows.specs.Lists.{any, member, some}
use Rattle.rows.specs.Codes.{client_end, server_end, in_node, in_clist, is_node}
use Rattle.rows.proofs.Places.{clist-not-node}
use Rattle.rows.proofs.RowSources.{node-there}
use Rattle.rows.specs.Tables.{State, no_request, no_process, row_of, process_at, sources, lists}
use Rattle.rows.proofs.Bools.{clash, false_of, or-fr, any_none}
use Rattle.tables.proofs.SoundFacts.{row_number}
use Rattle.rows.specs.Setters.{in_prime_node, went_through}
use Rattle.tables.proofs.Sound.{Sound}
use Rattle.closing.proofs.Lookups.{oldest-none}
use Rattle.closing.specs.Closing.{listed_in, settled, closing, close_request, close_port, drop_row}
use Rattle.calls.specs.declared.Item.{Item}
use Rattle.calls.specs.declared.Sixteen.{Sixteen}
use Rattle.calls.specs.declared.Call.{Call}
use Rattle.calls.specs.declared.Call.TheVariants.{Go, Hold, Register, Drop, Port, Close, Ask, Fetch, Revoke, Comes, Chain, ComesAll}
use Rattle.calls.specs.Rules.{asked_of, with_new_rows, copy_of, with_record}
use Rattle.calls.specs.Loans.{items_of, handed_over}
use Rattle.calls.specs.Calls.{held_depth, registered_depth, port_depth, port_end, in_use, done, made, go_home, go_through, with_held, with_registered, with_port, effect}
use Rattle.kept.proofs.Allowed.{GoAllowed, HoldAllowed, RegisterAllowed, DropAllowed, PortAllowed, AskAllowed, FetchAllowed}
use Rattle.kept.proofs.Ask.{closed-form}
use Rattle.kept.proofs.AskFacts.{asked_state}
use Rattle.history.proofs.Allowed.{Allowed}
use Rattle.security.specs.Sessions.{Log, logged}
use Rattle.security.specs.Changes.{closed_by, discards, goes, shuts, place_back, place_after, fetched_by, record_homed, record_after, takes}
use Rattle.security.proofs.Rows.{clist-apart, node-no-end, through-at}
use Rattle.security.proofs.Closings.{Closes, drop-goes, request-closes, port-closes, row_closes}

-- ---- the rows that a call adds
abbrev pub held_row : State → ℕ → ℕ → Row
held_row st p s =
    let r = row_of st.rows s in
    copy_of r st.next r.rights (in_clist p) s (process_at st.processes p).through (held_depth st p s) 0

abbrev pub registered_row : State → ℕ → ℕ → Row
registered_row st p e =
    let r = row_of st.rows e in
    copy_of r st.next r.rights (in_node (process_at st.processes p).active) r.source 0 (registered_depth st e) 0

abbrev pub client_row : State → ℕ → ℕ → Row
client_row st p e = port_end client_end st.next st.next (in_clist p) e (port_depth st e)

abbrev pub server_row : State → ℕ → Row
server_row st e = port_end server_end (suc st.next) st.next (in_clist (row_of st.rows e).object) e (port_depth st e)

pub data Adds (st : State) : Call → List Row → Type 0 where
  holds : (p s : ℕ) → HoldAllowed st p s → Adds st (Hold p s) (held_row st p s ∷ [])
  registers : (p e : ℕ) → RegisterAllowed st p e → Adds st (Register p e) (registered_row st p e ∷ [])
  makes : (p e : ℕ) → PortAllowed st p e → Adds st (Port p e) (server_row st e ∷ client_row st p e ∷ [])

-- the record of a process that goes to e
abbrev pub went_to : State → ℕ → ℕ → Process
went_to st p e = let x = process_at st.processes p in if eqb e 0 then in_prime_node x else went_through e (row_of st.rows e).object x

-- ---- a call that closes takes no number and fetches nothing; what is said of places and records after it is said of every closing
pub record Plain (st : State) (c : Call) : Type 0 where
  pub placed : (r : Row) → place_after st c r ≡ place_back st c r
  pub homed : (p : ℕ) → record_after st c p ≡ record_homed st c p
  pub unfetched : (v : Request) → fetched_by st c v ≡ v
  pub unnumbered : takes st c ≡ 0
  pub unlogged : (log : Log) → logged st c log ≡ log
  -- it discards no row of a node
  pub spares : (n : ℕ) → is_node (row_of st.rows n).place ≡ true → discards c (row_of st.rows n) ≡ false

-- ---- a call that asks and changes nothing
pub data Question : Call → Type 0 where
  comes : (e q : ℕ) → Question (Comes e q)
  chain : (e : ℕ) → Question (Chain e)
  comes-all : (es qs : Sixteen) → Question (ComesAll es qs)

-- ---- the six kinds
pub data Effect (st : State) : Call → State → Type 0 where
  tells : (c : Call) → Question c → Effect st c st
  moves-to : (p e : ℕ) → GoAllowed st p e → Effect st (Go p e) (with_record p (went_to st p e) st)
  adds : (c : Call) (rs : List Row) (n : ℕ) → Adds st c rs → n ≡ st.next + length rs → Effect st c (with_new_rows (rs ++ st.rows) n st)
  asks : (p c : ℕ) (is : List Item) → AskAllowed st p c (items_of is) → Effect st (Ask p c is) (asked_state st p c (items_of is))
  fetches : (p e : ℕ) → FetchAllowed st p e → Effect st (Fetch p e) (handed_over p (asked_of st e) st)
  shuts-off : (c : Call) (g : List ℕ) (f : Request → Bool) → Closes st c g f → Plain st c → Effect st c (settled g f st)

go-is : (st : State) (p e : ℕ) → (if eqb e 0 then go_home st p else go_through st p e) ≡ with_record p (went_to st p e) st
unfolding go_home go_through with_record
go-is st p e = pick (eqb e 0)
  where
    pick : (b : Bool) → (if b then go_home st p else go_through st p e) ≡ with_record p (let x = process_at st.processes p in if b then in_prime_node x else went_through e (row_of st.rows e).object x) st
    pick true = refl
    pick false = refl

-- ---- nobody stands in a node through a row that is dropped
not_through : (st : State) → Sound st → (p e : ℕ) → DropAllowed st p e → (q : ℕ) → some (process_at st.processes q).through ≡ true → eqb (process_at st.processes q).through e ≡ false
not_through st s p e a q h =
    false_of (eqb (process_at st.processes q).through e) λ z.
    let w = through-at st s q h in
    let is : (process_at st.processes q).through ≡ e = eqb-true _ e z in
    let mine : in_clist q ≡ in_clist p = sym w.place ∙ ap (λ k. (row_of st.rows k).place) is ∙ eqb-true _ (in_clist p) a.row.place in
    let same : q ≡ p = clist-apart q p mine in
    clash (eq-eqb (process_at st.processes p).through e (ap (λ k. (process_at st.processes k).through) (sym same) ∙ is))
    (or-fr (any (λ r. member e (sources r)) st.rows) (eqb (process_at st.processes p).through e) (unfold in_use in a.unused))

none-among : (f : Process → Bool) (ps : List Process) → ((i : ℕ) → f (get_or ps i no_process) ≡ false) → any f ps ≡ false
unfolding any
none-among f [] h = refl
none-among f (x ∷ ps) h = rw (h 0) (none-among f ps (λ i. h (suc i)))

-- (rule drop-13b) the caller's record alone is asked; on sound tables to ask all records would be the same (mutants/refusals.txt)
pub nobody-through-dropped : (st : State) → Sound st → (p e : ℕ) → DropAllowed st p e → any (λ x. some x.through && eqb x.through e) st.processes ≡ false
nobody-through-dropped st s p e a = none-among (λ x. some x.through && eqb x.through e) st.processes at
  where
    at : (i : ℕ) → some (get_or st.processes i no_process).through && eqb (get_or st.processes i no_process).through e ≡ false
    at i = pick (some (get_or st.processes i no_process).through) refl
      where
        pick : (b : Bool) → some (get_or st.processes i no_process).through ≡ b → b && eqb (get_or st.processes i no_process).through e ≡ false
        pick true h = unfold process_at in not_through st s p e a (suc i) h
        pick false h = refl

drop-plain : (st : State) → Sound st → (p e : ℕ) → DropAllowed st p e → Plain st (Drop p e)
unfolding place_after place_back record_after record_homed fetched_by takes shuts closed_by some no_request logged discards
drop-plain st s p e a = record { placed = stays; homed = home; unfetched = λ v. refl; unnumbered = refl; unlogged = λ log. refl; spares = outside }
  where
    outside : (n : ℕ) → is_node (row_of st.rows n).place ≡ true → eqb (row_of st.rows n).number e ≡ false
    outside n k =
        false_of _ (λ z. let is : n ≡ e = sym (row_number st.rows n (node-there st.rows n k)) ∙ eqb-true _ e z in
        clash k (ap (λ m. is_node (row_of st.rows m).place) is ∙ ap is_node (eqb-true _ (in_clist p) a.row.place) ∙ clist-not-node p))

    stays : (r : Row) → r.place ≡ place_back st (Drop p e) r
    stays r = ap (λ w. if some w.number then in_clist w.asker else r.place) (sym (oldest-none (shuts st (Drop p e)) r.number st.requests (unfold listed_in in any_none (λ w. shuts st (Drop p e) w && lists r.number w) (λ w. refl) st.requests)))

    home : (q : ℕ) → process_at st.processes q ≡ record_homed st (Drop p e) q
    home q = pick (some x.through) refl
      where
        x : Process
        x = process_at st.processes q

        other : some x.through ≡ true → goes st (Drop p e) x.through ≡ false
        other h =
            false_of (goes st (Drop p e) x.through) λ g.
            let w = through-at st s q h in
            let is : x.through ≡ e = sym (row_number st.rows x.through w.there) ∙ eqb-true _ e (drop-goes st p e x.through g) in
            clash (eq-eqb x.through e is) (not_through st s p e a q h)

        pick : (b : Bool) → some x.through ≡ b → x ≡ (if b && goes st (Drop p e) x.through then in_prime_node x else x)
        pick true h = rw (other h) refl
        pick false h = refl

-- of the other calls that close all this is so by definition
module _ (st : State) where
  close-plain : Sound st → (p c : ℕ) → Plain st (Close p c)
  unfolding place_after record_after fetched_by takes logged discards
  close-plain s p c =
      record {
        placed = λ r. refl;
        homed = λ p. refl;
        unfetched = λ v. refl;
        unnumbered = refl;
        unlogged = λ log. refl;
        spares = λ n k. ap (λ b. b && eqb (row_of st.rows n).object c) (node-no-end st s n k);
      }

  answer-plain : (p e : ℕ) (served : Bool) → Plain st (Call.Answer p e served)
  unfolding place_after record_after fetched_by takes logged discards
  answer-plain p e served = record { placed = λ r. refl; homed = λ p. refl; unfetched = λ v. refl; unnumbered = refl; unlogged = λ log. refl; spares = λ n k. refl }

  revoke-plain : (p q : ℕ) → Plain st (Revoke p q)
  unfolding place_after record_after fetched_by takes logged discards
  revoke-plain p q = record { placed = λ r. refl; homed = λ p. refl; unfetched = λ v. refl; unnumbered = refl; unlogged = λ log. refl; spares = λ n k. refl }

pub revoke-effect : (st : State) → Sound st → (p q : ℕ) → some q ≡ true → Effect st (Revoke p q) (close_request q st)
unfolding close_request closing closed_by discards
revoke-effect st s p q h = shuts-off (Revoke p q) _ _ (request-closes st s (Revoke p q) q h refl (λ r. refl)) (revoke-plain st p q)

pub effect_of : (st : State) → Sound st → (c : Call) → Allowed st c → Effect st c (effect st c).after
unfolding Allowed effect done made with_held with_registered with_port close_request close_port drop_row closing closed_by discards
effect_of st s (Go p e) a = subst (Effect st (Go p e)) (sym (go-is st p e)) (moves-to p e a)
effect_of st s (Hold p e) a = adds (Hold p e) _ (suc st.next) (holds p e a) (omega arith)
effect_of st s (Register p e) a = adds (Register p e) _ (suc st.next) (registers p e a) (omega arith)
effect_of st s (Drop p e) a = shuts-off (Drop p e) _ _ (row_closes st s p e a) (drop-plain st s p e a)
effect_of st s (Port p e) a = adds (Port p e) _ (suc (suc st.next)) (makes p e a) (omega arith)
effect_of st s (Close p c) a = shuts-off (Close p c) _ _ (port-closes st s p c a.client) (close-plain st s p c)
effect_of st s (Ask p c is) a = subst (Effect st (Ask p c is)) (sym (closed-form st p c (items_of is))) (asks p c is a)
effect_of st s (Fetch p e) a = fetches p e a
effect_of st s (Call.Answer p e served) a = shuts-off (Call.Answer p e served) _ _ (request-closes st s (Call.Answer p e served) (asked_of st e).number a.asked refl (λ r. refl)) (answer-plain st p e served)
effect_of st s (Revoke p q) a = revoke-effect st s p q a.number
effect_of st s (Comes e q) a = tells (Comes e q) (comes e q)
effect_of st s (Chain e) a = tells (Chain e) (chain e)
effect_of st s (ComesAll es qs) a = tells (ComesAll es qs) (comes-all es qs)
