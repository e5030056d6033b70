-- Rows of nodes stay as they are; every port has both its ends or none.
use Prim.Native.Nat.{ℕ, suc, pred}
use native.Mathlib.Omega.{arith}
use mathlib.Core.Bool.{true, false, not, ◌&&◌}
use mathlib.Core.List.{[]}
use mathlib.Core.Path.{◌≡◌, refl, sym, ap, ◌∙◌, subst}
use mathlib.Core.Logic.{◌⊎◌, inl, inr, ⊎_elim}
use lib.Dec.{eqb}
use borrow.Author.Tests.{eqb-true, eq-eqb}
use Rattle.rows.specs.declared.Row.{Row}
use Rattle.rows.specs.Codes.{is_client, is_server, is_end, is_node}
use Rattle.rows.specs.Tables.{State, no_row, row_of, numbers}
use Rattle.rows.specs.Sound.{rows_rise, is_paired_with, other_end}
use Rattle.rows.proofs.Bools.{clash, false_of, and_l, and_r, and_i, or_cases, some-pos, true-or-false}
use Rattle.rows.proofs.RowSources.{node-there, end-there}
use Rattle.tables.proofs.Picked.{all_found}
use Rattle.tables.proofs.Sound.{Sound}
use Rattle.tables.proofs.SoundFacts.{row_number, row-object, paired_at, client-object, server-object}
use Rattle.calls.specs.declared.Call.{Call}
use Rattle.history.specs.Demand3.{ends_of, TwoEnds}
use Rattle.history.proofs.Find.{server-other}
use Rattle.history.proofs.Laws.{nodes-never-vanish}
use Rattle.history.proofs.TwoEnds.{two_ends}
use Rattle.security.specs.Sessions.{IsRow, Step}
use Rattle.security.specs.Nodes.{NodesStay, EndsTogether}
use Rattle.security.proofs.Sessions.{session-sound, later-has}
use Rattle.security.proofs.Rows.{filter_none, Sort, text-row, registered-row, held-row, end_row, copy, sort-of, node-no-end}
use Rattle.security.proofs.Moves.{old-moves}
use Rattle.security.proofs.Steps.{step-moves}

-- ---- nodes
-- a row in a node bears no request's number
pub node-unborne : (st : State) → Sound st → (n : ℕ) → is_node (row_of st.rows n).place ≡ true → (row_of st.rows n).request ≡ 0
node-unborne st s n e = pick (sort-of st s n (node-there st.rows n e))
  where
    pick : Sort st.requests (row_of st.rows n) (row_of st.rows (row_of st.rows n).source) (row_of st.rows (row_of st.rows n).via) → (row_of st.rows n).request ≡ 0
    pick (text-row x) = x.request
    pick (registered-row x) = x.request
    pick (held-row x) = x.request
    pick (end_row x) = x.request
    pick (copy x) = clash e x.no_node

module _ (st st' : State) (c : Call) (s : Sound st) (k : Step st c st') (n : ℕ) (e : is_node (row_of st.rows n).place ≡ true) where
  pub node-there-after : IsRow st' n
  node-there-after = subst (λ x. IsRow x n) k.leaves (nodes-never-vanish st s n e k.line)

  pub node-same : row_of st'.rows n ≡ row_of st.rows n
  node-same =
      ⊎_elim (λ x. x.1)
      (λ x. ⊎_elim (λ end. clash end (node-no-end st s n e))
      (λ b. let z = node-unborne st s n e in let l = some-pos (row_of st.rows n).request b.0 in absurd (omega arith))
      (old-moves st s c n (row_of st'.rows n) (node-there st.rows n e) x))
      ((step-moves st st' c s k).arrives n node-there-after)

pub nodes-stay : NodesStay
unfolding NodesStay
nodes-stay fs log st x st' l n e = later-has P step st st' (session-sound fs log st x) l (node-there st.rows n e, refl)
  where
    P : State → Type 0
    P z = IsRow z n × (row_of z.rows n ≡ row_of st.rows n)

    step : (a b : State) (c : Call) → Sound a → Step a c b → P a → P b
    step a b c s k (t, q) =
        let e' : is_node (row_of a.rows n).place ≡ true = ap (λ r. is_node r.place) q ∙ e in
        (node-there-after a b c s k n e', node-same a b c s k n e' ∙ q)

-- ---- ports
module _ (st : State) (s : Sound st) (c : ℕ) where
  abbrev R : ℕ → Row
  R n = row_of st.rows n

  -- an end of port c has the client end c beside it
  client-beside : (n : ℕ) → IsRow st n → is_end (R n).kind ≡ true → (R n).object ≡ c → is_end (R c).kind && eqb (R c).object c ≡ true
  unfolding is_end is_paired_with
  client-beside n t k o = ⊎_elim as-client as-server (or_cases (is_client (R n).kind) (is_server (R n).kind) k)
    where
      as-client : is_client (R n).kind ≡ true → is_end (R c).kind && eqb (R c).object c ≡ true
      as-client h =
          let z : n ≡ c = sym (row_number st.rows n t) ∙ sym (client-object st.processes (R n) (row-object st s.rows n t) h) ∙ o in
          and_i (is_end (R c).kind) (eqb (R c).object c) (ap (λ m. is_end (R m).kind) (sym z) ∙ k) (eq-eqb (R c).object c (ap (λ m. (R m).object) (sym z) ∙ o))

      as-server : is_server (R n).kind ≡ true → is_end (R c).kind && eqb (R c).object c ≡ true
      as-server h =
          let suc-c : suc (R n).object ≡ (R n).number = server-object st.processes (R n) (row-object st s.rows n t) h in
          let other : other_end (R n) ≡ c = server-other (R n) h ∙ ap pred (sym suc-c) ∙ o in
          let pair = paired_at st s.rows n t k in
          let e : is_end (R (other_end (R n))).kind ≡ true = and_l (is_end (R (other_end (R n))).kind) _ pair in
          let same : eqb (R n).object (R (other_end (R n))).object ≡ true = and_l (eqb (R n).object (R (other_end (R n))).object) _ (and_r (is_end (R (other_end (R n))).kind) _ pair) in
          and_i (is_end (R c).kind) (eqb (R c).object c) (ap (λ m. is_end (R m).kind) (sym other) ∙ e)
          (eq-eqb (R c).object c (ap (λ m. (R m).object) (sym other) ∙ sym (eqb-true _ _ same) ∙ o))

  pub both-or-none : TwoEnds st.rows c ⊎ (ends_of c st.rows ≡ [])
  both-or-none = ⊎_elim (λ h. inl (both h)) (λ h. inr (none h)) (true-or-false (is_end (R c).kind && eqb (R c).object c))
    where
      both : is_end (R c).kind && eqb (R c).object c ≡ true → TwoEnds st.rows c
      both h =
          let k = and_l (is_end (R c).kind) (eqb (R c).object c) h in
          two_ends st s c (end-there st.rows c k) k (eqb-true (R c).object c (and_r (is_end (R c).kind) (eqb (R c).object c) h))

      none : is_end (R c).kind && eqb (R c).object c ≡ false → ends_of c st.rows ≡ []
      none h =
          unfold ends_of in
          filter_none (λ r. is_end r.kind && eqb r.object c) st.rows
          (unfold row_of numbers rows_rise in all_found (λ r. r.number) no_row (λ r. not (is_end r.kind && eqb r.object c)) st.rows s.numbers.rows-rise
          (λ n t. ap not (false_of _ (λ u. clash (client-beside n t (and_l (is_end (R n).kind) _ u) (eqb-true _ c (and_r (is_end (R n).kind) _ u))) h))))

pub ends-together : EndsTogether
unfolding EndsTogether
ends-together fs log st x c = both-or-none st (session-sound fs log st x) c
