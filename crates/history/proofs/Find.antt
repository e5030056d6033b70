-- Rows of the tables as the history has them; held rows, ends and their ports as the calls find them.
use Prim.Native.Nat.{ℕ, pred, ◌<◌}
use mathlib.Core.Bool.{Bool, true, false, cond}
use mathlib.Core.Path.{◌≡◌, refl, sym, ap, ◌∙◌}
use mathlib.Core.Logic.{⊎_elim}
use native.Mathlib.Omega.{arith}
use borrow.Author.Tests.{eqb-true}
use Rattle.rows.specs.declared.Row.{Row}
use Rattle.rows.specs.Lists.{member, some}
use Rattle.rows.specs.Codes.{client_end, server_end, is_client, is_server, is_end, is_node}
use Rattle.rows.specs.Tables.{State, row_of, numbers}
use Rattle.rows.specs.Sound.{is_paired_with, other_end}
use Rattle.rows.proofs.Bools.{and_l, or_cases, pos-some}
use Rattle.rows.proofs.Keyed.{rises-range}
use Rattle.tables.proofs.Sound.{Sound}
use Rattle.rows.proofs.Places.{copied-no-end}
use Rattle.rows.proofs.RowSources.{end-there}
use Rattle.tables.proofs.Standing.{standing-shape}
use Rattle.tables.proofs.SoundFacts.{row_number, row_below, row-object, paired_at, in-node-copied, client-object, server-object}
use Rattle.calls.specs.declared.Item.{Item}
use Rattle.calls.specs.Loans.{item_row, moves}
use Rattle.history.specs.History.{History}
use Rattle.history.specs.Notes.{is_end_noted, noted, noted_of, spoiled, standing, stands}
use Rattle.history.specs.Chains.{IsNoted}
use Rattle.history.proofs.Inv.{Inv, view}
use Rattle.history.proofs.Sweep.{noted-sweep}
use Rattle.history.proofs.View.{view-noted, view_of}
use Rattle.history.proofs.Gone.{stands-noted}

-- ---- rows of the tables, as the history has them
module _ (h : History) (st : State) (i : Inv h st) where
  pub in-tables : (e : ℕ) → member e (numbers st.rows) ≡ stands h e
  unfolding stands
  in-tables e = ap (member e) (sym (view-noted st.rows) ∙ ap noted i.rows)

  pub row-stands : (e : ℕ) → member e (numbers st.rows) ≡ true → stands h e ≡ true
  row-stands e t = sym (in-tables e) ∙ t

  pub row-noted : (e : ℕ) → stands h e ≡ true → noted_of h.rows e ≡ view (row_of st.rows e)
  unfolding stands standing
  row-noted e t = sym (noted-sweep (spoiled h) h.rows i.fit.rows-rise e t) ∙ ap (λ l. noted_of l e) (sym i.rows) ∙ view_of st.rows e

  pub stands-low : (e : ℕ) → stands h e ≡ true → (0 < e) × (e < st.next)
  unfolding noted IsNoted
  stands-low e t =
      let (lo, hi) = rises-range (λ r. r.number) h.rows i.fit.rows-rise e (stands-noted h i.fit e t) in
      let top = i.rows-below in (lo, omega arith)

-- ---- rows found
pub server-other : (r : Row) → is_server r.kind ≡ true → other_end r ≡ pred r.number
unfolding other_end is_server is_client client_end server_end
server-other r k = rw (eqb-true r.kind 4 k) refl

module _ (st : State) (s : Sound st) where
  -- a row in a node is no end
  pub node-no-end : (e : ℕ) → member e (numbers st.rows) ≡ true → is_node (row_of st.rows e).place ≡ true → is_end (row_of st.rows e).kind ≡ false
  node-no-end e t n = copied-no-end (row_of st.rows e).kind (in-node-copied st.requests st.rows (row_of st.rows e) (standing-shape st s.numbers s.rows e t) n)

  pub server-port : (e : ℕ) → member e (numbers st.rows) ≡ true → is_server (row_of st.rows e).kind ≡ true → (row_of st.rows e).object ≡ pred e
  server-port e t k =
      let n = row_number st.rows e t in
      let o = server-object st.processes (row_of st.rows e) (row-object st s.rows e t) k in omega arith

  pub client-port : (e : ℕ) → member e (numbers st.rows) ≡ true → is_client (row_of st.rows e).kind ≡ true → (row_of st.rows e).object ≡ e
  client-port e t k = client-object st.processes (row_of st.rows e) (row-object st s.rows e t) k ∙ row_number st.rows e t

  -- the port of an end has a number: a client end's is its own, a server end's that of its other end
  end-port-low : (e : ℕ) → member e (numbers st.rows) ≡ true → is_end (row_of st.rows e).kind ≡ true → 0 < (row_of st.rows e).object
  end-port-low e t k = ⊎_elim client server (or_cases (is_client (row_of st.rows e).kind) (is_server (row_of st.rows e).kind) (unfold is_end in k))
    where
      r : Row
      r = row_of st.rows e

      client : is_client r.kind ≡ true → 0 < r.object
      client c = let z = client-port e t c in let (lo, hi) = row_below st s.numbers e t in omega arith

      server : is_server r.kind ≡ true → 0 < r.object
      server c =
          let z : r.object ≡ pred e = server-port e t c in
          let n : r.number ≡ e = row_number st.rows e t in
          let other : is_end (row_of st.rows (other_end r)).kind ≡ true = unfold is_paired_with in and_l (is_end (row_of st.rows (other_end r)).kind) _ (paired_at st s.rows e t k) in
          let (lo, hi) = row_below st s.numbers (other_end r) (end-there st.rows (other_end r) other) in
          let o : other_end r ≡ pred r.number = server-other r c in
          omega arith

-- the rows of items that are ends, in the history and in the tables
pub end-noted : (h : History) (st : State) → Inv h st → Sound st → (x : Item) → member x.row (numbers st.rows) ≡ true → is_end_noted h.rows x ≡ moves st x
unfolding is_end_noted moves item_row view
end-noted h st i s x t = ap (λ r. some r.port) (row-noted h st i x.row (row-stands h st i x.row t)) ∙ pick (is_end (row_of st.rows x.row).kind) refl
  where
    pick : (b : Bool) → is_end (row_of st.rows x.row).kind ≡ b → some (cond b (row_of st.rows x.row).object 0) ≡ b
    pick true q = pos-some (row_of st.rows x.row).object (end-port-low st s x.row t q)
    pick false q = unfold some in refl
