-- Closing keeps the tables sound, and so do its three uses: closing a request, closing a port, dropping a row.
use Prim.Native.Nat.{ℕ, ◌<◌}
use mathlib.Core.Bool.{Bool, true, false, ◌&&◌}
use mathlib.Core.List.{List, [], ◌∷◌}
use mathlib.Core.Path.{◌≡◌, refl, sym, ap, ◌∙◌}
use mathlib.Core.Logic.{⊎_elim}
use lib.Dec.{eqb}
use borrow.Author.Tests.{eqb-true, eq-eqb, ne_eqb}
use native.Mathlib.Omega.{arith}
use Rattle.rows.specs.declared.Row.{Row}
use Rattle.rows.specs.declared.Request.{Request}
use Rattle.rows.specs.Lists.{member, some}
use Rattle.rows.specs.Codes.{is_end}
use Rattle.rows.specs.Tables.{State, row_of, marked, bears}
use Rattle.rows.specs.Sound.{is_paired_with, other_end}
use Rattle.rows.proofs.Bools.{clash, and_l, and_r, some-pos, member-cases}
use Rattle.tables.proofs.Sound.{Sound}
use Rattle.tables.proofs.SoundFacts.{row_number, paired_at}
use Rattle.rows.proofs.RowSources.{end-there}
use Rattle.closing.specs.Closing.{closes, settled, closing, close_request, is_end_of, close_port, is_row, drop_row}
use Rattle.closing.specs.vocabulary.Marks.{Stands}
use Rattle.closing.proofs.Facts.{end-at}
use Rattle.closing.proofs.RemovedRows.{Closed, Closable, closable-closed}
use Rattle.kept.proofs.ClosingRequests.{numbers-kept, loans-kept}
use Rattle.kept.proofs.ClosingPlaces.{holders-kept, processes-kept}
use Rattle.kept.proofs.ClosingRows.{rows-kept, copies-listed-kept}

-- the removal of rows and the closing of requests that go together, part by part
settled-kept : (g : List ℕ) (f : Request → Bool) (st : State) → Sound st → Closed g f st → Sound (settled g f st)
settled-kept g f st s c =
    record {
      numbers = numbers-kept g f st s.numbers;
      rows = rows-kept g f st s c;
      loans = loans-kept g f st c (copies-listed-kept g f st s c) s.loans;
      holders = holders-kept g f st s c;
      placed = processes-kept g f st s c;
    }

closing-kept : (seed : Row → Bool) (qs : List ℕ) (st : State) → Sound st → Closable seed qs st → Sound (closing seed qs st)
unfolding closing
closing-kept seed qs st s c = settled-kept (marked seed st.rows) (closes qs (marked seed st.rows)) st s (closable-closed seed qs st s c)

-- ---- the uses: none has an end of a port as a seed without its other end
module _ (st : State) (s : Sound st) where
  -- an end and its other end: both are ends of one port
  record Pair (n : ℕ) : Type 0 where
    pub stands : Stands st (other_end (row_of st.rows n))
    pub is-end : is_end (row_of st.rows (other_end (row_of st.rows n))).kind ≡ true
    pub port : (row_of st.rows n).object ≡ (row_of st.rows (other_end (row_of st.rows n))).object

  pair-at : (n : ℕ) → Stands st n → is_end (row_of st.rows n).kind ≡ true → Pair n
  unfolding is_paired_with
  pair-at n t k =
      let r : Row = row_of st.rows n in
      let o : Row = row_of st.rows (other_end r) in
      let p : is_paired_with r o ≡ true = paired_at st s.rows n t k in
      let e : is_end o.kind ≡ true = and_l (is_end o.kind) (eqb r.object o.object && eqb r.source o.source) p in
      record {
        stands = end-there st.rows (other_end r) e;
        is-end = e;
        port = eqb-true _ _ (and_l (eqb r.object o.object) (eqb r.source o.source) (and_r (is_end o.kind) (eqb r.object o.object && eqb r.source o.source) p));
      }

  pub request-closable : (q : ℕ) → some q ≡ true → Closable (bears q) (q ∷ []) st
  unfolding bears member
  request-closable q h = record { pairs = pairs; bearing = bearing }
    where
      no_end : (n : ℕ) → Stands st n → is_end (row_of st.rows n).kind ≡ true → bears q (row_of st.rows n) ≡ false
      no_end n t k = let z : (row_of st.rows n).request ≡ 0 = (end-at st s n t k).no-request in let p : 0 < q = some-pos q h in ne_eqb (row_of st.rows n).request q (λ e. omega arith)

      pairs : (n : ℕ) → Stands st n → is_end (row_of st.rows n).kind ≡ true → bears q (row_of st.rows n) ≡ bears q (row_of st.rows (other_end (row_of st.rows n)))
      pairs n t k = no_end n t k ∙ sym (no_end (other_end (row_of st.rows n)) (pair-at n t k).stands (pair-at n t k).is-end)

      bearing : (n : ℕ) → Stands st n → member (row_of st.rows n).request (q ∷ []) ≡ true → bears q (row_of st.rows n) ≡ true
      bearing n t m = ⊎_elim (eq-eqb (row_of st.rows n).request q) (λ u. clash u refl) (member-cases (row_of st.rows n).request q [] m)

  pub port-closable : (c : ℕ) → Closable (is_end_of c) [] st
  unfolding is_end_of member
  port-closable c = record { pairs = pairs; bearing = λ n t m. clash m refl }
    where
      pairs : (n : ℕ) → Stands st n → is_end (row_of st.rows n).kind ≡ true → is_end_of c (row_of st.rows n) ≡ is_end_of c (row_of st.rows (other_end (row_of st.rows n)))
      pairs n t k =
          ap (λ b. b && eqb (row_of st.rows n).object c) (k ∙ sym (pair-at n t k).is-end)
          ∙ ap (λ m. is_end (row_of st.rows (other_end (row_of st.rows n))).kind && eqb m c) (pair-at n t k).port

  pub row-closable : (e : ℕ) → is_end (row_of st.rows e).kind ≡ false → Closable (is_row e) [] st
  unfolding is_row member
  row-closable e h = record { pairs = pairs; bearing = λ n t m. clash m refl }
    where
      other : (n : ℕ) → Stands st n → is_end (row_of st.rows n).kind ≡ true → is_row e (row_of st.rows n) ≡ false
      other n t k = ne_eqb (row_of st.rows n).number e (λ z. clash (ap (λ m. is_end (row_of st.rows m).kind) (sym z ∙ row_number st.rows n t) ∙ k) h)

      pairs : (n : ℕ) → Stands st n → is_end (row_of st.rows n).kind ≡ true → is_row e (row_of st.rows n) ≡ is_row e (row_of st.rows (other_end (row_of st.rows n)))
      pairs n t k = other n t k ∙ sym (other (other_end (row_of st.rows n)) (pair-at n t k).stands (pair-at n t k).is-end)

  pub close-request-kept : (q : ℕ) → some q ≡ true → Sound (close_request q st)
  unfolding close_request
  close-request-kept q h = closing-kept (bears q) (q ∷ []) st s (request-closable q h)

  pub close-port-kept : (c : ℕ) → Sound (close_port c st)
  unfolding close_port
  close-port-kept c = closing-kept (is_end_of c) [] st s (port-closable c)

  pub drop-kept : (e : ℕ) → is_end (row_of st.rows e).kind ≡ false → Sound (drop_row e st)
  unfolding drop_row
  drop-kept e h = closing-kept (is_row e) [] st s (row-closable e h)
