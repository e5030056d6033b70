-- ask keeps the tables sound.
use Prim.Native.Nat.{ℕ, suc}
use mathlib.Core.List.{List, [], ◌∷◌}
use mathlib.Core.Path.{◌≡◌, sym, subst}
use Rattle.rows.specs.Tables.{State}
use Rattle.tables.proofs.Sound.{Sound}
use Rattle.calls.specs.declared.Item.{Item}
use Rattle.calls.specs.Loans.{Lending, lent, new_request, with_request}
use Rattle.kept.proofs.Allowed.{AskAllowed}
use Rattle.kept.proofs.AskItems.{lend-rows, lend-items, lend_next}
use Rattle.kept.proofs.AskFacts.{asked_state}
use Rattle.kept.proofs.AskRows.{rows-asked, processes-asked}
use Rattle.kept.proofs.AskRequests.{numbers-asked, loans-asked, holders-asked}

asked-sound : (st : State) (s : Sound st) (p c : ℕ) (is : List Item) → AskAllowed st p c is → Sound (asked_state st p c is)
asked-sound st s p c is a =
    record {
      numbers = numbers-asked st s p c is a;
      rows = rows-asked st s p c is a;
      loans = loans-asked st s p c is a;
      holders = holders-asked st s p c is a;
      placed = processes-asked st s p c is a;
    }

-- the definition's tables are those of the closed form
pub closed-form : (st : State) (p c : ℕ) (is : List Item) → with_request st p c is ≡ asked_state st p c is
unfolding with_request lent
closed-form st p c is =
    let l : Lending = record { rows = st.rows; items = []; next = suc st.next } in
    λ j.
    record {
      rows = lend-rows st c st.next is l j;
      requests = new_request st.next c p (lend-items st c st.next is l j) ∷ st.requests;
      processes = st.processes;
      next = lend_next st c st.next is l j;
    }

pub ask-kept : (st : State) → Sound st → (p c : ℕ) (is : List Item) → AskAllowed st p c is → Sound (with_request st p c is)
ask-kept st s p c is a = subst Sound (sym (closed-form st p c is)) (asked-sound st s p c is a)
