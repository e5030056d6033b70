-- What the calls' functions answer: the numbers of refusals, and that answer, words and records are the definition's.
use Rattle.std.specs.Prelude.{ℕ, suc, ◌+◌, ◌≤◌, Bool, true, ◌&&◌, List, [], ◌∷◌, ◌≡◌, eqb, length}
use Rattle.std.specs.Prelude.{Option, Result, Ok, Err}
use Rattle.rows.specs.declared.Process.{Process}
use Rattle.rows.specs.Lists.{any, member, some}
use Rattle.rows.specs.Codes.{is_subdirectory, is_server, in_clist, in_node}
use Rattle.rows.specs.Tables.{State, row_of, process_at, is_listed, sources, is_lent, first_chain}
use Rattle.rows.specs.Sound.{sound}
use Rattle.rows.specs.Layout.{row_slot, records_in, records_of}
use Rattle.rows.specs.vocabulary.Represents.{Represents}
use Rattle.rows.specs.vocabulary.Slots.{found_slot, open_slot}
use Rattle.rows.specs.vocabulary.Sizes.{ROWS, PROCESSES, LAST-NEXT}
use Rattle.calls.specs.declared.Refusal.{Refusal}
use Rattle.calls.specs.declared.Answer.{Answer}
use Rattle.calls.specs.declared.Answer.TheVariants.{Refused}
use Rattle.calls.specs.declared.Call.{Call}
use Rattle.calls.specs.declared.Call.TheVariants.{Go, Hold, Register, Drop, Port, Close, Ask, Fetch, Revoke, Comes, Chain, ComesAll}
use Rattle.calls.specs.Answers.{refusal_number}
use Rattle.calls.specs.Rules.{Out, ◌when◌, lowest, too_deep, rows_full, numbers_spent}
use Rattle.calls.specs.Calls.{refusals_hold, held_depth, refusals_register, registered_depth, refusals_port, port_depth, refusals_close, refusals_drop, chained_answer, perform, caller_of}
use Rattle.calls.specs.vocabulary.Lookups.{HasRows, HasRequests, StandsAt}
use Rattle.calls.specs.vocabulary.Effects.{IsProcess}

-- ---- a call
-- the answer, and the words after, are those of the definition
pub record Answers (after : List ℕ) (r : Answer) (o : Out) : Type 0 where
  pub answer : r ≡ o.answer
  pub words : Represents after o.after

-- the records too, which are left
pub record Agrees (after : List ℕ) (left : List Process) (r : Answer) (o : Out) : Type 0 where
  pub answer : r ≡ o.answer
  pub words : Represents after o.after
  pub records : left ≡ o.after.processes

-- both runs are those of the definition, word for word
abbrev pub RunsAfter : List ℕ → List ℕ → Out → Type 0
RunsAfter u v o = Represents u o.after × (v ≡ records_of o.after.processes)

-- the caller is listed; comes, chain and comesall have none
abbrev pub CallerListed : State → Call → Type 0
CallerListed st c = some (caller_of c) ≡ true → is_listed st.processes (caller_of c) ≡ true

-- for every sound state that the words t represent with the records ps, the call does what its definition says
abbrev pub Performs : List ℕ → List ℕ → Call → List ℕ → List ℕ → Answer → Type 0
Performs t ps c after left r =
    (st : State) → sound st ≡ true → Represents t st → st.processes ≡ records_in ps → CallerListed st c
    → Agrees after (records_in left) r (perform st c)

-- whatever the records are, they stay
abbrev pub PerformsApart : List ℕ → Call → List ℕ → Answer → Type 0
PerformsApart t c after r = (ps : List ℕ) → Performs t ps c after ps r

-- where it is refused, no word changes, of the tables and of the records
abbrev pub StaysIfRefused : List ℕ → List ℕ → Call → List ℕ → List ℕ → Answer → Type 0
StaysIfRefused t ps c after left r =
    (st : State) (k : ℕ) → sound st ≡ true → Represents t st → st.processes ≡ records_in ps → CallerListed st c
    → r ≡ Refused k → (after ≡ t) × (left ≡ ps)

-- what reading a line gives of a call: its caller is a process's number; comes, chain and comesall have none
unfoldable pub CallerInRange : Call → Type 0
CallerInRange (Go p e) = IsProcess p
CallerInRange (Hold p s) = IsProcess p
CallerInRange (Register p e) = IsProcess p
CallerInRange (Drop p e) = IsProcess p
CallerInRange (Port p e) = IsProcess p
CallerInRange (Close p c) = IsProcess p
CallerInRange (Ask p c is) = IsProcess p
CallerInRange (Fetch p e) = IsProcess p
CallerInRange (Call.Answer p e served) = IsProcess p
CallerInRange (Revoke p q) = IsProcess p
CallerInRange (Comes e q) = Unit {0}
CallerInRange (Chain e) = Unit {0}
CallerInRange (ComesAll es qs) = Unit {0}

-- ---- a step that may be refused
-- the number of the refusal, 0 for none
abbrev pub refusal_in : {A : Type 0} → Result A Refusal → ℕ
refusal_in (Ok x) = 0
refusal_in (Err r) = refusal_number r

-- the answer of the call
abbrev pub answer_in : Result Answer Refusal → Answer
answer_in (Ok r) = r
answer_in (Err r) = Refused (refusal_number r)

-- ---- what refuses new rows
-- k rows of depth d: 15, 16, 18, 0 for nothing
abbrev pub RefusesRows : ℕ → ℕ → ℕ → ℕ → ℕ → Type 0
RefusesRows n next d k r =
    (st : State) → n ≡ length st.rows → st.next ≡ next
    → r ≡ lowest (15 when too_deep d ∷ 16 when rows_full st k ∷ 18 when numbers_spent st k ∷ [])

-- where nothing does there are slots and numbers left
abbrev pub HasRoom : ℕ → ℕ → ℕ → ℕ → Type 0
HasRoom n next k r = r ≡ 0 → (n + k ≤ ROWS) × (next + k ≤ LAST-NEXT)

-- ---- hold
-- r says whether the row at a source word is lent; 0 is none
abbrev pub IsLentWord : List ℕ → ℕ → Bool → Type 0
IsLentWord t w r =
    (st : State) (x : ℕ) → sound st ≡ true → Represents t st → row_slot st.rows x ≡ w → r ≡ some x && is_lent st x

-- r says whether the row in slot i is a subdirectory and the one at the word via is lent
abbrev pub TakesLent : List ℕ → ℕ → ℕ → Bool → Type 0
TakesLent t i via r =
    (st : State) (s x : ℕ) → sound st ≡ true → Represents t st → StandsAt st s i → row_slot st.rows x ≡ via
    → r ≡ is_subdirectory (row_of st.rows s).kind && (some x && is_lent st x)

-- the row s, in the caller's active node, stands in slot i; the row that the caller went through is at the word via
abbrev pub MayTake : State → ℕ → ℕ → ℕ → ℕ → Type 0
MayTake st p s i via =
    StandsAt st s i × (eqb (row_of st.rows s).place (in_node (process_at st.processes p).active) ≡ true)
    × (row_slot st.rows (process_at st.processes p).through ≡ via)

abbrev pub RefusesHold : List ℕ → ℕ → ℕ → ℕ → ℕ → ℕ → ℕ → Type 0
RefusesHold t n i via d next r =
    (st : State) (p s : ℕ) → sound st ≡ true → HasRows t n st → MayTake st p s i via → held_depth st p s ≡ d
    → st.next ≡ next
    → r ≡ lowest (refusals_hold st p s)

abbrev pub HoldsRow : List ℕ → ℕ → ℕ → ℕ → ℕ → List ℕ → Answer → Type 0
HoldsRow t n i via p after r =
    (st : State) (s : ℕ) → sound st ≡ true → HasRows t n st → MayTake st p s i via → is_listed st.processes p ≡ true
    → Answers after r (perform st (Hold p s))

-- ---- register
-- the row e, in the caller's c-list, stands in slot i
abbrev pub HeldAt : State → ℕ → ℕ → ℕ → Type 0
HeldAt st p e i = StandsAt st e i × (eqb (row_of st.rows e).place (in_clist p) ≡ true)

abbrev pub RefusesRegister : List ℕ → ℕ → ℕ → ℕ → ℕ → ℕ → Type 0
RefusesRegister t n i d next r =
    (st : State) (p e : ℕ) → sound st ≡ true → HasRows t n st → HeldAt st p e i → registered_depth st e ≡ d
    → st.next ≡ next
    → r ≡ lowest (refusals_register st p e)

abbrev pub RegistersRow : List ℕ → ℕ → ℕ → ℕ → List ℕ → Answer → Type 0
RegistersRow t n i node after r =
    (st : State) (p e : ℕ) → sound st ≡ true → HasRows t n st → HeldAt st p e i
    → (process_at st.processes p).active ≡ node
    → Answers after r (perform st (Register p e))

-- ---- port
abbrev pub RefusesPort : List ℕ → ℕ → ℕ → ℕ → ℕ → ℕ → Type 0
RefusesPort t n i d next r =
    (st : State) (p e : ℕ) → sound st ≡ true → HasRows t n st → HeldAt st p e i → port_depth st e ≡ d → st.next ≡ next
    → r ≡ lowest (refusals_port st p e)

abbrev pub MakesPort : List ℕ → ℕ → ℕ → ℕ → List ℕ → Answer → Type 0
MakesPort t n i p after r =
    (st : State) (e : ℕ) → sound st ≡ true → HasRows t n st → HeldAt st p e i
    → Answers after r (perform st (Port p e))

-- ---- close
abbrev pub RefusesClose : List ℕ → ℕ → ℕ → ℕ → Type 0
RefusesClose t i c r =
    (st : State) (p : ℕ) → sound st ≡ true → Represents t st → HeldAt st p c i → r ≡ lowest (refusals_close st p c)

abbrev pub ClosesHeld : List ℕ → List ℕ → ℕ → ℕ → List ℕ → List ℕ → Answer → Type 0
ClosesHeld t ps i c after left r =
    (st : State) (p : ℕ) → sound st ≡ true → Represents t st → st.processes ≡ records_in ps → HeldAt st p c i
    → Agrees after (records_in left) r (perform st (Close p c))

-- ---- fetch, answer
-- r is the slot of the request that the server sees at its end, which stands in slot i
abbrev pub FindsAsked : List ℕ → ℕ → ℕ → Option ℕ → Type 0
FindsAsked t m i r =
    (st : State) (e : ℕ) → HasRequests t m st → StandsAt st e i
    → r ≡ found_slot (open_slot st.requests (row_of st.rows e).object)

-- the server end e, which the caller holds, stands in slot i, and the request open on its port in slot j
abbrev pub Serves : State → ℕ → ℕ → ℕ → Type 0
Serves st p e j =
    (eqb (row_of st.rows e).place (in_clist p) ≡ true) × (is_server (row_of st.rows e).kind ≡ true)
    × (open_slot st.requests (row_of st.rows e).object ≡ suc j)

abbrev pub FetchesRequest : List ℕ → ℕ → ℕ → ℕ → List ℕ → Answer → Type 0
FetchesRequest t n j p after r =
    (st : State) (e : ℕ) → sound st ≡ true → HasRows t n st → Serves st p e j → p ≤ PROCESSES
    → Answers after r (perform st (Fetch p e))

abbrev pub FetchesEnd : List ℕ → ℕ → ℕ → ℕ → List ℕ → Answer → Type 0
FetchesEnd t n i p after r =
    (st : State) (e : ℕ) → sound st ≡ true → HasRows t n st → HeldAt st p e i → p ≤ PROCESSES
    → Answers after r (perform st (Fetch p e))

-- ---- drop
-- r says whether a row has the row in slot i for a source
abbrev pub IsSourceOfSome : List ℕ → ℕ → ℕ → Bool → Type 0
IsSourceOfSome t n i r =
    (st : State) (e : ℕ) → HasRows t n st → StandsAt st e i → r ≡ any (λ r. member e (sources r)) st.rows

abbrev pub RefusesDrop : List ℕ → ℕ → ℕ → ℕ → ℕ → ℕ → Type 0
RefusesDrop t n i through e r =
    (st : State) (p : ℕ) → HasRows t n st → HeldAt st p e i → (process_at st.processes p).through ≡ through
    → r ≡ lowest (refusals_drop st p e)

abbrev pub DropsHeld : List ℕ → ℕ → List ℕ → ℕ → ℕ → ℕ → List ℕ → List ℕ → Answer → Type 0
DropsHeld t n ps i through e after left r =
    (st : State) (p : ℕ) → sound st ≡ true → HasRows t n st → st.processes ≡ records_in ps → HeldAt st p e i
    → (process_at st.processes p).through ≡ through
    → Agrees after (records_in left) r (perform st (Drop p e))

-- ---- chain
-- r is the answer for the row in slot i
abbrev pub ChainedAt : List ℕ → ℕ → Answer → Type 0
ChainedAt t i r =
    (st : State) (e : ℕ) → sound st ≡ true → Represents t st → StandsAt st e i
    → r ≡ chained_answer (first_chain st.rows e)
