-- After every call on sound tables, accepted or refused, the ends that the requests list are those that the history has on loan.
use mathlib.Core.Path.{refl, ◌∙◌}
use Rattle.rows.specs.Tables.{State}
use Rattle.tables.proofs.Sound.{Sound}
use Rattle.calls.specs.declared.Call.{Call}
use Rattle.calls.specs.declared.Call.TheVariants.{Go, Hold, Register, Drop, Port, Close, Ask, Fetch, Revoke, Comes, Chain, ComesAll}
use Rattle.calls.specs.Answers.{refusal_of, values_of}
use Rattle.calls.specs.Rules.{asked_of}
use Rattle.calls.specs.Loans.{items_of}
use Rattle.calls.specs.Calls.{fetched_answer, chained_answer, effect}
use Rattle.text.specs.declared.Reading.TheVariants.{Asks}
use Rattle.text.specs.Entry.{answered}
use Rattle.text.proofs.Readings.{Good}
use Rattle.history.specs.History.{History}
use Rattle.history.specs.Notes.{add_row, note_go, note_hold, note_register, note_port, note_end}
use Rattle.history.specs.Reading.{items_named, note_call}
use Rattle.history.proofs.Inv.{Inv, Lends, first_value}
use Rattle.history.proofs.Keeps.{Keeps}
use Rattle.history.proofs.Allowed.{Allowed, call-has}
use Rattle.history.proofs.StepsInv.{effect-keeps}
use Rattle.history.proofs.LoansKept.{LendsAfter, refused-lends, taken, taken-done, taken_made, calm}
use Rattle.history.proofs.LoansClose.{drop-settles, close-settles, request-settles}
use Rattle.history.proofs.LoansAdd.{go_same, held_same, registered-same, port-same, handed-same}
use Rattle.history.proofs.LoansAsk.{asked-loans}

module _ (h : History) (st : State) (i : Inv h st) (l : Lends h st) (s : Sound st) where
  effect-lends : (c : Call) → Allowed st c → Keeps h c (effect st c) → LendsAfter h c (effect st c)
  unfolding Allowed effect note_call items_of items_named fetched_answer chained_answer refusal_of values_of first_value note_go note_hold note_register note_port note_end add_row
  effect-lends (Go p e) a k = taken-done _ k (λ i. calm _ _ i (go_same st s p e ∙ l.lends))
  effect-lends (Hold p e) a k = taken_made _ _ k (λ i. calm _ _ i (held_same st s p e ∙ l.lends))
  effect-lends (Register p e) a k = taken_made _ _ k (λ i. calm _ _ i (registered-same st s p e ∙ l.lends))
  effect-lends (Drop p e) a k = taken-done _ k (drop-settles h st i l s e)
  effect-lends (Port p e) a k = taken_made _ _ k (λ i. calm _ _ i (port-same st s p e ∙ l.lends))
  effect-lends (Close p c) a k = taken-done _ k (close-settles h st i l s c)
  effect-lends (Ask p c is) a k = taken_made _ _ k (λ j. calm _ _ j (asked-loans h st i l s p c (items_of is) a.held))
  effect-lends (Fetch p e) a k = taken _ _ refl refl k (λ i. calm _ _ i (handed-same st s p (asked_of st e) ∙ l.lends))
  effect-lends (Call.Answer p e served) a k = taken-done _ k (request-settles h st i l s _ _)
  effect-lends (Revoke p q) a k = taken-done _ k (request-settles h st i l s q q)
  effect-lends (Comes e q) a k = taken _ _ refl refl k (λ i. calm _ _ i l.lends)
  effect-lends (Chain e) a k = taken _ _ refl refl k (λ i. calm _ _ i l.lends)
  effect-lends (ComesAll es qs) a k = taken _ _ refl refl k (λ i. calm _ _ i l.lends)

pub call-lends : (h : History) (st : State) → Inv h st → Lends h st → Sound st → (c : Call) → Good c → LendsAfter h c (answered st (Asks c))
call-lends h st i l s c g =
    call-has (LendsAfter h c) st s (refused-lends h c st l) c g (λ a. effect-lends h st i l s c a (effect-keeps h st i s c a))
