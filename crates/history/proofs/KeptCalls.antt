-- Every call line leaves sound tables sound.
use Prim.Native.Nat.{ℕ}
use mathlib.Core.List.{List}
use Rattle.rows.specs.Tables.{State}
use Rattle.tables.proofs.Sound.{Sound}
use Rattle.calls.specs.declared.Call.{Call}
use Rattle.calls.specs.declared.Call.TheVariants.{Go, Hold, Register, Drop, Port, Close, Ask, Fetch, Revoke, Comes, Chain, ComesAll}
use Rattle.calls.specs.Loans.{items_of}
use Rattle.calls.specs.Rules.{asked_of, refused}
use Rattle.calls.specs.Calls.{done, made, effect}
use Rattle.kept.proofs.Closing.{close-request-kept, close-port-kept, drop-kept}
use Rattle.kept.proofs.Go.{go-kept}
use Rattle.kept.proofs.Hold.{hold-kept, register-kept}
use Rattle.kept.proofs.Port.{port-kept}
use Rattle.kept.proofs.Fetch.{fetch-kept}
use Rattle.kept.proofs.Ask.{ask-kept}
use Rattle.text.specs.Entry.{call_on}
use Rattle.history.proofs.Allowed.{Allowed, line-has}

pub effect-kept : (st : State) → Sound st → (c : Call) → Allowed st c → Sound (effect st c).after
unfolding Allowed effect done made
effect-kept st s (Go p e) a = go-kept st s p e a
effect-kept st s (Hold p e) a = hold-kept st s p e a
effect-kept st s (Register p e) a = register-kept st s p e a
effect-kept st s (Drop p e) a = drop-kept st s e a.no_end
effect-kept st s (Port p e) a = port-kept st s p e a
effect-kept st s (Close p c) a = close-port-kept st s c
effect-kept st s (Ask p c is) a = ask-kept st s p c (items_of is) a
effect-kept st s (Fetch p e) a = fetch-kept st s p e a
effect-kept st s (Call.Answer p e served) a = close-request-kept st s (asked_of st e).number a.asked
effect-kept st s (Revoke p q) a = close-request-kept st s q a.number
effect-kept st s (Comes e q) a = s
effect-kept st s (Chain e) a = s
effect-kept st s (ComesAll es qs) a = s

pub call_kept : (st : State) → Sound st → (line : List ℕ) → Sound (call_on st line).after
unfolding refused
call_kept st s line = line-has (λ o. Sound o.after) st s (λ k r. s) line (effect-kept st s)
