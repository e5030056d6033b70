-- The state after go, hold, register and port: what the changes in place make of it, as the definitions write it.
use Prim.Native.Nat.{ℕ, zero, suc, ◌+◌, ◌-◌, ◌<◌}
use mathlib.Core.Bool.{Bool, true, ◌&&◌}
use mathlib.Core.List.{List, ◌∷◌}
use mathlib.Core.Path.{◌≡◌, ap, sym, ◌∙◌}
use mathlib.Core.Logic.{inl, inr, ⊎_elim}
use native.Mathlib.Omega.{arith}
use native.Mathlib.Numerals.{add-one}
use borrow.Author.Tests.{eqb-true}
use lib.Dec.{eqb}
use lib.ListN.{get_or, set}
use Rattle.rows.specs.declared.Process.{Process}
use Rattle.rows.specs.Lists.{member}
use Rattle.rows.specs.Codes.{client_end, server_end, in_clist, in_node, is_node, is_subdirectory}
use Rattle.rows.specs.Tables.{State, no_process, row_of, process_at, numbers, is_listed}
use Rattle.rows.specs.Setters.{with_rows, with_next, in_prime_node, went_through}
use Rattle.rows.specs.Sound.{process_placed}
use Rattle.rows.proofs.Bools.{and_l, and_r, or_cases}
use Rattle.rows.specs.Limits.{nodes}
use Rattle.rows.proofs.Places.{between-range}
use Rattle.rows.proofs.RowSources.{Among, subdirectory-there, shape-sources}
use Rattle.tables.proofs.Sound.{Sound}
use Rattle.tables.proofs.SoundFacts.{placed_at}
use Rattle.tables.proofs.Standing.{standing-shape}
use Rattle.calls.specs.declared.NewPort.{NewPort}
use Rattle.calls.specs.Rules.{copy_of, with_new_rows, with_record}
use Rattle.calls.specs.Calls.{go_home, go_through, with_held, held_depth, with_registered, registered_depth, port_end, with_port, port_depth}
use Rattle.calls.specs.vocabulary.Effects.{client_of, server_of}

-- ---- sources
-- the row that a listed process went through stands
pub through-among : (st : State) → Sound st → (p : ℕ) → is_listed st.processes p ≡ true → Among st.rows (process_at st.processes p).through
unfolding process_placed
through-among st s p l =
    let x = process_at st.processes p in
    let r = row_of st.rows x.through in
    ⊎_elim (λ e. inl (eqb-true x.through 0 (and_l (eqb x.through 0) (eqb x.active x.prime) e)))
    (λ e. let k : is_subdirectory r.kind ≡ true = search (and_l, and_r) in inr (subdirectory-there st.rows x.through k))
    (or_cases (eqb x.through 0 && eqb x.active x.prime) _ (placed_at st s.placed p l))

-- the first source of a standing row stands
pub source-among : (st : State) → Sound st → (e : ℕ) → member e (numbers st.rows) ≡ true → Among st.rows (row_of st.rows e).source
source-among st s e t = (shape-sources st.requests (row_of st.rows e) st.rows (standing-shape st s.numbers s.rows e t)).0

-- ---- go
process-at : (ps : List Process) (p : ℕ) → 0 < p → get_or ps (p - 1) no_process ≡ process_at ps p
unfolding process_at
process-at ps zero h = absurd (omega arith)
process-at ps (suc i) h = ap (λ (k : ℕ). get_or ps k no_process) (omega arith)

module _ (st : State) (ps : List Process) (same : st.processes ≡ ps) (p : ℕ) (h : 0 < p) where
  module _ (x : Process) (read : x ≡ get_or ps (p - 1) no_process) where
    -- the record that was read is that of the process
    pub at-process : x ≡ process_at st.processes p
    at-process = read ∙ process-at ps p h ∙ ap (λ (l : List Process). process_at l p) (sym same)

    pub home-record : set ps (p - 1) (in_prime_node x) ≡ (go_home st p).processes
    unfolding go_home with_record
    home-record = λ j. set (sym same j) (p - 1) (in_prime_node (at-process j))

    pub through-record : (e n : ℕ) → n ≡ (row_of st.rows e).object → set ps (p - 1) (went_through e n x) ≡ (go_through st p e).processes
    unfolding go_through with_record
    through-record e n k = λ j. set (sym same j) (p - 1) (went_through e (k j) (at-process j))

-- ---- the active node of a process
pub node-some : (n : ℕ) → is_node n ≡ true → n ≡ 0 → ⊥
unfolding is_node
node-some n t z = let (lo, hi) = between-range 1 nodes n t in omega arith

-- a test of the node in its record is the definition's
pub in-active : (st : State) (p s n : ℕ) → n ≡ (process_at st.processes p).active → (b : Bool) → eqb (row_of st.rows s).place n ≡ b
    → eqb (row_of st.rows s).place (in_node (process_at st.processes p).active) ≡ b
unfolding in_node
in-active st p s n same b h = ap (eqb (row_of st.rows s).place) (sym same) ∙ h

-- ---- hold and register
module _ (st : State) (p e k rights place d : ℕ) (number : k ≡ st.next) (right : rights ≡ (row_of st.rows e).rights) where
  abbrev pub added : (s v : ℕ) → State
  added s v = with_next (k + 1) (with_rows (copy_of (row_of st.rows e) k rights place s v d 0 ∷ st.rows) st)

  counted : k + 1 ≡ suc st.next
  counted = add-one k ∙ ap suc number

  pub held-state : place ≡ in_clist p → d ≡ held_depth st p e → added e (process_at st.processes p).through ≡ with_held st p e
  unfolding with_held with_new_rows
  held-state here deep =
      λ j.
      record {
        rows = copy_of (row_of st.rows e) (number j) (right j) (here j) e (process_at st.processes p).through (deep j) 0 ∷ st.rows;
        requests = st.requests;
        processes = st.processes;
        next = counted j;
      }

  pub registered-state : place ≡ (process_at st.processes p).active → d ≡ registered_depth st e → added (row_of st.rows e).source 0 ≡ with_registered st p e
  unfolding with_registered with_new_rows in_node
  registered-state here deep =
      λ j.
      record {
        rows = copy_of (row_of st.rows e) (number j) (right j) (here j) (row_of st.rows e).source 0 (deep j) 0 ∷ st.rows;
        requests = st.requests;
        processes = st.processes;
        next = counted j;
      }

-- ---- port
pub port-state : (st : State) (p e : ℕ) (w : NewPort) → w.number ≡ st.next → w.client ≡ in_clist p → w.server ≡ in_clist (row_of st.rows e).object → w.depth ≡ port_depth st e
    → with_next (w.number + 2) (with_rows (server_of e w ∷ client_of e w ∷ st.rows) st) ≡ with_port st p e
unfolding with_port with_new_rows
port-state st p e w number here there deep =
    let two : w.number + 2 ≡ suc (suc st.next) = omega arith in
    λ j.
    record {
      rows = port_end server_end (suc (number j)) (number j) (there j) e (deep j) ∷ port_end client_end (number j) (number j) (here j) e (deep j) ∷ st.rows;
      requests = st.requests;
      processes = st.processes;
      next = two j;
    }
