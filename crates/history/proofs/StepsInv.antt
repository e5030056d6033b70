-- Every call on sound tables, accepted or refused, keeps the invariant of history and tables.
use mathlib.Core.Path.{refl}
use Rattle.rows.specs.Tables.{State}
use Rattle.tables.proofs.Sound.{Sound}
use Rattle.calls.specs.declared.Call.{Call}
use Rattle.calls.specs.declared.Call.TheVariants.{Go, Hold, Register, Drop, Port, Close, Ask, Fetch, Revoke, Comes, Chain, ComesAll}
use Rattle.calls.specs.Answers.{refusal_of, values_of}
use Rattle.calls.specs.Rules.{asked_of}
use Rattle.calls.specs.Loans.{items_of}
use Rattle.calls.specs.Calls.{fetched_answer, chained_answer, effect}
use Rattle.text.specs.declared.Reading.TheVariants.{Asks}
use Rattle.text.specs.Entry.{answered}
use Rattle.text.proofs.Readings.{Good}
use Rattle.history.specs.History.{History}
use Rattle.history.specs.Reading.{items_named, note_call}
use Rattle.history.proofs.Inv.{Inv, first_value}
use Rattle.history.proofs.Keeps.{Keeps, refused-keeps, taken, taken-done, taken_made}
use Rattle.history.proofs.Allowed.{Allowed, call-has}
use Rattle.history.proofs.StepAdd.{held-inv, registered-inv, port-inv}
use Rattle.history.proofs.StepClose.{dropped-inv, closed-inv, served-inv, revoke-inv}
use Rattle.history.proofs.StepGo.{gone-inv, fetched-inv}
use Rattle.history.proofs.StepAsk.{ask-inv}

pub effect-keeps : (h : History) (st : State) → Inv h st → Sound st → (c : Call) → Allowed st c → Keeps h c (effect st c)
unfolding Allowed effect note_call items_of items_named fetched_answer chained_answer refusal_of values_of first_value
effect-keeps h st i s (Go p e) a = taken-done _ (gone-inv h st i p e a)
effect-keeps h st i s (Hold p e) a = taken_made _ _ (held-inv h st i s p e a)
effect-keeps h st i s (Register p e) a = taken_made _ _ (registered-inv h st i s p e a)
effect-keeps h st i s (Drop p e) a = taken-done _ (dropped-inv h st i s p e a)
effect-keeps h st i s (Port p e) a = taken_made _ _ (port-inv h st i s p e a.row.there)
effect-keeps h st i s (Close p c) a = taken-done _ (closed-inv h st i s p c a)
effect-keeps h st i s (Ask p c is) a = taken_made _ _ (ask-inv h st i s p c (items_of is) a)
effect-keeps h st i s (Fetch p e) a = taken _ (asked_of st e).number refl refl (fetched-inv h st i p (asked_of st e))
effect-keeps h st i s (Call.Answer p e served) a = taken-done _ (served-inv h st i s p e a)
effect-keeps h st i s (Revoke p q) a = taken-done _ (revoke-inv h st i s p q a)
effect-keeps h st i s (Comes e q) a = taken _ _ refl refl i
effect-keeps h st i s (Chain e) a = taken _ _ refl refl i
effect-keeps h st i s (ComesAll es qs) a = taken _ _ refl refl i

pub call-inv : (h : History) (st : State) → Inv h st → Sound st → (c : Call) → Good c → Keeps h c (answered st (Asks c))
call-inv h st i s c g = call-has (Keeps h c) st s (refused-keeps h c st i) c g (effect-keeps h st i s c)
