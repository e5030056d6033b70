-- The loops over the requests: the ports marked by the slots of their client ends, and the clauses joined.
use Prim.Native.Nat.{ℕ, zero, suc, ◌+◌, ◌<◌, ◌≤◌}
use mathlib.Core.Bool.{Bool, true, false, not, cond, ◌&&◌, ◌||◌}
use mathlib.Core.List.{List, [], ◌∷◌, map}
use mathlib.Core.Path.{◌≡◌, refl, ap, sym, ◌∙◌}
use native.Mathlib.Decide.{ℕ_discrete}
use native.Mathlib.Numerals.{add-one}
use native.Mathlib.Omega.{arith}
use borrow.Author.Tests.{eq-eqb, ne_eqb}
use lib.Dec.{leb, ltb, eqb}
use lib.ListN.{length, get_or, set, replicate, length-set, length-replicate, get_or-replicate}
use lib.Seq.{get_or-set_same, get_or-set_other}
use Rattle.rows.specs.declared.Row.{Row}
use Rattle.rows.specs.declared.Request.{Request}
use Rattle.rows.specs.declared.Process.{Process}
use Rattle.rows.specs.Lists.{any, all, member, distinct, nonzero}
use Rattle.rows.specs.Codes.{client_end, is_client}
use Rattle.rows.specs.Tables.{State, no_row, row_of, is_listed}
use Rattle.rows.specs.Sound.{numbers_apart, fetched_in_range, port_stands, ports_stand, requesters_listed, items_apart, one_per_port}
use Rattle.rows.specs.Layout.{request_at, requests_to, row_slot}
use Rattle.rows.specs.vocabulary.Represents.{Represents}
use Rattle.soundness_loans.specs.vocabulary.Clauses.{request_right, standing_port, ports_right, all_of_requests, is_free, with_mark}
use Rattle.rows.proofs.Bools.{clash, and_l, and_r, and-false, eqb-sym}
use Rattle.rows.proofs.Slots.{row-absent}
use Rattle.soundness_loans.proofs.RequestClauses.{slot-test, all_both}

-- ---- ports
-- a port that stands has a slot
port-slot : (rs : List Row) (v : Request) → port_stands rs v ≡ true → row_slot rs v.port ≡ 0 → ⊥
unfolding port_stands is_client client_end no_row
port-slot rs v e z =
    let client : is_client (row_of rs v.port).kind ≡ true = and_l (is_client (row_of rs v.port).kind) (ltb (suc v.port) v.number) e in
    clash client (ap (λ (r : Row). is_client r.kind) (row-absent rs v.port z))

port-none : (rs : List Row) (v : Request) → standing_port rs v ≡ 0 → port_stands rs v ≡ false
unfolding standing_port
port-none rs v = pick (port_stands rs v) refl
  where
    pick : (b : Bool) → port_stands rs v ≡ b → cond b (row_slot rs v.port) 0 ≡ 0 → b ≡ false
    pick true q e = absurd (port-slot rs v q e)
    pick false q e = refl

port-some : (rs : List Row) (v : Request) (i : ℕ) → standing_port rs v ≡ suc i → (port_stands rs v ≡ true) × (row_slot rs v.port ≡ suc i)
unfolding standing_port
port-some rs v i = pick (port_stands rs v)
  where
    pick : (b : Bool) → cond b (row_slot rs v.port) 0 ≡ suc i → (b ≡ true) × (row_slot rs v.port ≡ suc i)
    pick true e = (refl, e)
    pick false e = absurd (omega arith)

-- which slots the ports of the requests have
abbrev taken : List Row → ℕ → List Request → Bool
taken rs s vs = any (λ w. eqb (standing_port rs w) s) vs

-- where all ports stand, a slot is taken if its port is there
taken-port : {st : State} {t : List ℕ} → Represents t st → (c i : ℕ) → row_slot st.rows c ≡ suc i → (vs : List Request) → all (port_stands st.rows) vs ≡ true
    → taken st.rows (suc i) vs ≡ member c (map (λ v. v.port) vs)
unfolding any all member standing_port
taken-port rep c i e [] h = refl
taken-port {st} rep c i e (w ∷ vs) h =
    let here : port_stands st.rows w ≡ true = and_l (port_stands st.rows w) (all (port_stands st.rows) vs) h in
    let rest : all (port_stands st.rows) vs ≡ true = and_r (port_stands st.rows w) (all (port_stands st.rows) vs) h in
    rw (here, taken-port rep c i e vs rest)
    (ap (λ (b : Bool). b || member c (map (λ v. v.port) vs)) (eqb-sym (row_slot st.rows w.port) (suc i) ∙ slot-test rep c i e w.port))

-- the marks are the slots of the ports of the requests so far
pub record Ports (rs : List Row) (vs : List Request) (marks : List Bool) (right : Bool) : Type 0 where
  pub long : length marks ≡ 1024
  pub told : right ≡ ports_right rs vs
  pub held : (i : ℕ) → i < 1024 → get_or marks i false ≡ taken rs (suc i) vs

pub ports-start : (rs : List Row) → Ports rs [] (replicate 1024 false) true
unfolding ports_right any all distinct
ports-start rs = record { long = length-replicate 1024 false; told = refl; held = λ i h. get_or-replicate 1024 i false false h }

pub ports-turn : {st : State} {t : List ℕ} → Represents t st → (vs : List Request) (marks : List Bool) (right : Bool) (v : Request) (s : ℕ)
    → s ≡ standing_port st.rows v → s ≤ 1024 → Ports st.rows vs marks right → Ports st.rows (v ∷ vs) (with_mark marks s) (is_free marks s && right)
unfolding ports_right any all distinct with_mark is_free
ports-turn {st} rep vs marks right v zero e h p =
    record {
      long = p.long;
      told = rw (port-none st.rows v (sym e)) refl;
      held =
          λ k lt.
          p.held k lt
          ∙ ap (λ (b : Bool). b || taken st.rows (suc k) vs) (sym (ap (λ (s : ℕ). eqb s (suc k)) (sym e) ∙ ne_eqb 0 (suc k) (λ d. omega arith)));
    }
ports-turn {st} rep vs marks right v (suc i) e h p =
    let (stands, at) = port-some st.rows v i (sym e) in
    record {
      long = length-set marks i true ∙ p.long;
      told =
          ap (λ (b : Bool). not b && right) (p.held i h)
          ∙ ap (λ (b : Bool). not (taken st.rows (suc i) vs) && b) p.told
          ∙ rw stands (joined at (all (port_stands st.rows) vs) refl);
      held = marked;
    }
  where
    ports : List ℕ
    ports = map (λ v. v.port) vs

    joined : row_slot st.rows v.port ≡ suc i → (b : Bool) → all (port_stands st.rows) vs ≡ b
        → not (taken st.rows (suc i) vs) && (b && distinct ports) ≡ b && (not (member v.port ports) && distinct ports)
    joined at true q = ap (λ (b : Bool). not b && distinct ports) (taken-port rep v.port i at vs q)
    joined at false q = and-false (not (taken st.rows (suc i) vs))

    marked : (k : ℕ) → k < 1024 → get_or (set marks i true) k false ≡ eqb (standing_port st.rows v) (suc k) || taken st.rows (suc k) vs
    marked k lt = elim (ℕ_discrete k i) [ yes d ↦ here d | no d ↦ there d ]
      where
        same : (k : ℕ) → standing_port st.rows v ≡ suc k → k ≡ i
        same k x = omega (arith, e, x)

        or-taken : {a b : Bool} → a ≡ b → b || taken st.rows (suc k) vs ≡ a || taken st.rows (suc k) vs
        or-taken q = sym (ap (λ (b : Bool). b || taken st.rows (suc k) vs) q)

        here : k ≡ i → get_or (set marks i true) k false ≡ eqb (standing_port st.rows v) (suc k) || taken st.rows (suc k) vs
        here d =
            ap (λ (n : ℕ). get_or (set marks i true) n false) d
            ∙ get_or-set_same marks i true false (omega (arith, p.long))
            ∙ or-taken (eq-eqb (standing_port st.rows v) (suc k) (sym e ∙ ap suc (sym d)))

        there : (k ≡ i → ⊥) → get_or (set marks i true) k false ≡ eqb (standing_port st.rows v) (suc k) || taken st.rows (suc k) vs
        there d =
            get_or-set_other marks i k true false d
            ∙ p.held k lt
            ∙ or-taken (ne_eqb (standing_port st.rows v) (suc k) (λ x. d (same k x)))

-- one request more
pub ports-next : {st : State} {t : List ℕ} → Represents t st → (u : List ℕ) (j : ℕ) (marks marks' : List Bool) (right r : Bool) (s : ℕ)
    → s ≡ standing_port st.rows (request_at u j) → s ≤ 1024 → r ≡ is_free marks s → marks' ≡ with_mark marks s
    → Ports st.rows (requests_to u j) marks right → Ports st.rows (requests_to u (j + 1)) marks' (r && right)
unfolding requests_to
ports-next rep u j marks marks' right r s e h free mark p = rw (add-one j, free, mark) (ports-turn rep (requests_to u j) marks right (request_at u j) s e h p)

-- ---- the clauses joined
each_right : (ps : List Process) (vs : List Request) → all (request_right ps) vs ≡ fetched_in_range vs && (requesters_listed ps vs && items_apart vs)
unfolding request_right fetched_in_range requesters_listed items_apart
each_right ps vs = all_both fetched (λ v. asked v && once v) vs ∙ ap (λ (b : Bool). all fetched vs && b) (all_both asked once vs)
  where
    fetched : Request → Bool
    fetched v = leb v.fetched 1

    asked : Request → Bool
    asked v = is_listed ps v.asker

    once : Request → Bool
    once v = distinct (nonzero v.items)

pub requests-joined : (st : State) → numbers_apart st.rows st.requests && (all (request_right st.processes) st.requests && ports_right st.rows st.requests) ≡ all_of_requests st
unfolding ports_right ports_stand one_per_port
requests-joined st =
    ap (λ (b : Bool). numbers_apart st.rows st.requests && (b && ports_right st.rows st.requests)) (each_right st.processes st.requests)
    ∙ ap (λ (b : Bool). numbers_apart st.rows st.requests && b)
    (join (fetched_in_range st.requests) (ports_stand st.rows st.requests) (requesters_listed st.processes st.requests) (items_apart st.requests) (one_per_port st.requests))
  where
    join : (b c d e g : Bool) → (b && (d && e)) && (c && g) ≡ b && (c && (d && (e && g)))
    join false c d e g = refl
    join true true false e g = refl
    join true true true e g = refl
    join true false d e g = and-false (d && e)
