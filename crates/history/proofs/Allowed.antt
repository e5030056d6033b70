-- Every property of every answer to a call line: refusals have it, and so has the effect of a call that is allowed.
use Prim.Native.Nat.{ℕ}
use mathlib.Core.Bool.{Bool, true, false, not, cond, ◌&&◌}
use mathlib.Core.List.{List, [], ◌∷◌}
use mathlib.Core.Path.{◌≡◌, refl}
use lib.Dec.{eqb}
use Rattle.rows.specs.Lists.{all, some}
use Rattle.rows.specs.Limits.{processes}
use Rattle.rows.specs.Tables.{State, is_listed}
use Rattle.rows.proofs.Bools.{not_f, pos-some, all-mono}
use Rattle.rows.proofs.Places.{between-range}
use Rattle.tables.proofs.Sound.{Sound}
use Rattle.calls.specs.declared.Call.{Call}
use Rattle.calls.specs.declared.Call.TheVariants.{Go, Hold, Register, Drop, Port, Close, Ask, Fetch, Revoke, Comes, Chain, ComesAll}
use Rattle.calls.specs.Rules.{Out, Test, ◌when◌, is_refusal, refused}
use Rattle.calls.specs.Loans.{items_of}
use Rattle.calls.specs.Calls.{refusals_go, refusals_hold, refusals_register, refusals_drop, refusals_port, refusals_close, refusals_ask, refusals_fetch, refusals_answer, refusals_revoke, refusals_comes, refusals_chain, refusals, effect, perform, caller_of}
use Rattle.kept.proofs.Judged.{Passed, numbered, judged}
use Rattle.kept.proofs.Allowed.{GoAllowed, HoldAllowed, RegisterAllowed, DropAllowed, PortAllowed, CloseAllowed, AskAllowed, ServerAllowed, FetchAllowed, RevokeAllowed, ComesAllowed, ChainAllowed, go-allowed, hold-allowed, register-allowed, drop-allowed, port-allowed, close-allowed, ask-allowed, fetch-allowed, answer-allowed, revoke-allowed, comes-allowed, chain-allowed}
use Rattle.text.specs.declared.Reading.{Reading}
use Rattle.text.specs.declared.Reading.TheVariants.{Asks, Crowded, Refused as BadLine}
use Rattle.text.specs.CallLines.{reading_of, is_process, is_number}
use Rattle.text.specs.Entry.{caller_unlisted, answered, call_on}
use Rattle.text.proofs.Readings.{Good, reading-good, reading-refused, number-some}

-- ---- a call that is allowed: its line is good, its caller is listed, and no test holds
unfoldable pub Allowed : State → Call → Type 0
Allowed st (Go p e) = GoAllowed st p e
Allowed st (Hold p s) = HoldAllowed st p s
Allowed st (Register p e) = RegisterAllowed st p e
Allowed st (Drop p e) = DropAllowed st p e
Allowed st (Port p e) = PortAllowed st p e
Allowed st (Close p c) = CloseAllowed st p c
Allowed st (Ask p c is) = AskAllowed st p c (items_of is)
Allowed st (Fetch p e) = FetchAllowed st p e
Allowed st (Call.Answer p e served) = ServerAllowed st p e
Allowed st (Revoke p q) = RevokeAllowed st p q
Allowed st (Comes e q) = ComesAllowed st e q
Allowed st (Chain e) = ChainAllowed st e
Allowed st (ComesAll es qs) = some es.first.first ≡ true

-- the caller, a process's number, is listed
caller-listed : (st : State) (p : ℕ) → is_process p ≡ true → some p && not (is_listed st.processes p) ≡ false → is_listed st.processes p ≡ true
unfolding is_process
caller-listed st p r e = not_f (is_listed st.processes p) (rw (pos-some p (between-range 1 processes p r).0) at e)

allowed : (st : State) → Sound st → (c : Call) → Good c → caller_unlisted st c ≡ false → Passed (refusals st c) → Allowed st c
unfolding Allowed Good caller_unlisted caller_of refusals
allowed st s (Go p e) g l w = go-allowed st p e (caller-listed st p g.caller l) w
allowed st s (Hold p e) g l w = hold-allowed st s p e (caller-listed st p g.caller l) w
allowed st s (Register p e) g l w = register-allowed st p e (caller-listed st p g.caller l) w
allowed st s (Drop p e) g l w = drop-allowed st p e (caller-listed st p g.caller l) w
allowed st s (Port p e) g l w = port-allowed st p e (caller-listed st p g.caller l) w
allowed st s (Close p c) g l w = close-allowed st p c (caller-listed st p g.caller l) w
allowed st s (Ask p c is) g l w =
    let named = all-mono (λ i. is_number i.row) (λ i. some i.row) (λ i q. number-some i.row q) (items_of is) g.rows in
    ask-allowed st p c (items_of is) (caller-listed st p g.caller l) g.few named g.rights g.apart w
allowed st s (Fetch p e) g l w = fetch-allowed st p e (caller-listed st p g.caller l) w
allowed st s (Call.Answer p e served) g l w = answer-allowed st p e (caller-listed st p g.caller l) served w
allowed st s (Revoke p q) g l w = revoke-allowed st p q (caller-listed st p g.caller l) (number-some q g.number) w
allowed st s (Comes e q) g l w = comes-allowed st e q w
allowed st s (Chain e) g l w = chain-allowed st e w
allowed st s (ComesAll es qs) g l w = g.there

-- the tests have the numbers of refusals
go-numbered : (st : State) (p e : ℕ) → numbered (refusals_go st p e) ≡ true
unfolding refusals_go numbered all
go-numbered st p e = pick (eqb e 0) _ refl
  where
    pick : (b : Bool) (ts : List Test) → numbered ts ≡ true → numbered (cond b [] ts) ≡ true
    pick true ts n = refl
    pick false ts n = n

all-numbered : (st : State) (c : Call) → numbered (refusals st c) ≡ true
unfolding refusals numbered all refusals_hold refusals_register refusals_drop refusals_port refusals_close refusals_ask refusals_fetch refusals_answer refusals_revoke refusals_comes refusals_chain
all-numbered st (Go p e) = go-numbered st p e
all-numbered st (Hold p s) = refl
all-numbered st (Register p e) = refl
all-numbered st (Drop p e) = refl
all-numbered st (Port p e) = refl
all-numbered st (Close p c) = refl
all-numbered st (Ask p c is) = refl
all-numbered st (Fetch p e) = refl
all-numbered st (Call.Answer p e served) = refl
all-numbered st (Revoke p q) = refl
all-numbered st (Comes e q) = refl
all-numbered st (Chain e) = refl
all-numbered st (ComesAll es qs) = refl

-- ---- the law
module _ (P : Out → Type 0) (st : State) (s : Sound st) (refusal : (k : ℕ) → is_refusal k ≡ true → P (refused st k)) where
  -- of a call that was read
  pub call-has : (c : Call) → Good c → (Allowed st c → P (effect st c)) → P (answered st (Asks c))
  unfolding answered perform numbered all Passed
  call-has c g e =
      judged P st (5 when caller_unlisted st c ∷ []) (perform st c) refusal refl λ l.
      judged P st (refusals st c) (effect st c) refusal (all-numbered st c) λ w. e (allowed st s c g l.0 w)

  -- of a line
  pub line-has : (line : List ℕ) → ((c : Call) → Allowed st c → P (effect st c)) → P (call_on st line)
  unfolding call_on answered numbered all
  line-has line e = pick (reading_of line) refl
    where
      pick : (x : Reading) → reading_of line ≡ x → P (answered st x)
      pick (Asks c) q = call-has c (reading-good line c q) (e c)
      pick (Crowded p) q = judged P st (5 when not (is_listed st.processes p) ∷ []) (refused st 6) refusal refl λ _. refusal 6 refl
      pick (BadLine k) q = refusal k (reading-refused line k q)
