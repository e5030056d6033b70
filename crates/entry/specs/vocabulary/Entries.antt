-- What the entry points say: the reply and both runs are those of the definition (crates/text/specs/Entry.antt).
use Rattle.std.specs.Prelude.{ℕ, ◌<◌, ◌≤◌, Bool, true, List, ◌++◌, ◌≡◌, length, drop}
use Rattle.rows.specs.Tables.{State}
use Rattle.rows.specs.Sound.{sound}
use Rattle.rows.specs.Layout.{records_in}
use Rattle.rows.specs.vocabulary.Sizes.{IsTables}
use Rattle.rows.specs.vocabulary.Represents.{Represents}
use Rattle.calls.specs.declared.Answer.{Answer}
use Rattle.calls.specs.declared.Call.{Call}
use Rattle.calls.specs.Rules.{Out}
use Rattle.calls.specs.vocabulary.Performs.{RunsAfter, CallerInRange}
use Rattle.text.specs.declared.Reading.{Reading}
use Rattle.text.specs.declared.Reading.TheVariants.{Asks, Crowded}
use Rattle.text.specs.declared.Reply.{Reply}
use Rattle.text.specs.Entry.{Replied, caller_unlisted, answered}
use Rattle.text.specs.vocabulary.Replies.{in_reply}
use Rattle.text.specs.vocabulary.Sizes.{REPLY}
use Rattle.page.specs.vocabulary.Columns.{WritesLines}
use Rattle.joining.specs.Written.{join}
use Rattle.joining.specs.vocabulary.Lines.{Puts}
use Rattle.joining.specs.vocabulary.Answers.{JOINED}

-- ---- on sound tables
-- the sound tables t with the records p become u with the records v, and r is answered, as f says
abbrev pub AnswersOn : List ℕ → List ℕ → (State → Out) → List ℕ → List ℕ → Answer → Type 0
AnswersOn t p f u v r =
    (st : State) → sound st ≡ true → Represents t st → st.processes ≡ records_in p
    → RunsAfter u v (f st) × (r ≡ (f st).answer)

-- r says whether the caller is not listed
abbrev pub TellsUnlisted : List ℕ → Call → Bool → Type 0
TellsUnlisted p c r = (st : State) → st.processes ≡ records_in p → r ≡ caller_unlisted st c

-- an ask with too many items changes nothing, and r is its refusal
abbrev pub AnswersCrowded : List ℕ → ℕ → Answer → Type 0
AnswersCrowded p caller r =
    (st : State) → st.processes ≡ records_in p
    → ((answered st (Crowded caller)).after ≡ st) × (r ≡ (answered st (Crowded caller)).answer)

-- a call that was read has a caller in range
abbrev pub ReadInRange : Reading → Type 0
ReadInRange line = (c : Call) → line ≡ Asks c → CallerInRange c

-- ---- the entry points
-- the reply r and both runs t and p are those of the definition
abbrev pub Replies : Replied → Reply → List ℕ → List ℕ → Type 0
Replies o r t p = (r ≡ in_reply o.reply) × (t ≡ o.tables) × (p ≡ o.processes)

-- ---- under C names
-- where the reply has room: reply and runs are those of the definition, and the bytes after the reply stay
abbrev pub Given : Replied → List ℕ → List ℕ → List ℕ → List ℕ → ℕ → Type 0
Given o out t p after n =
    (n ≡ length o.reply) × (after ≡ o.reply ++ drop (length o.reply) out) × (t ≡ o.tables) × (p ≡ o.processes)

-- where it has none, all stay
abbrev pub AllStay : List ℕ → List ℕ → List ℕ → List ℕ → List ℕ → List ℕ → ℕ → Type 0
AllStay t p out u v after n = (n ≡ 0) × (after ≡ out) × (u ≡ t) × (v ≡ p)

pub record Exports (o : Replied) (t p out u v after : List ℕ) (n : ℕ) : Type 0 where
  pub answered : REPLY ≤ length out → Given o out u v after n
  pub short : length out < REPLY → AllStay t p out u v after n

-- lines of the holders' page of the tables t, from the slot `from` on; none of tables of another length
pub record ExportsLines (t : List ℕ) (from : ℕ) (out after : List ℕ) (n : ℕ) : Type 0 where
  pub lines : IsTables t → WritesLines t from out after n
  pub misfit : (IsTables t → ⊥) → (n ≡ 0) × (after ≡ out)

-- (rule J11) two opening texts joined; nothing where `out` has less than the room for all that may be printed
pub record ExportsJoin (texts out after : List ℕ) (n : ℕ) : Type 0 where
  pub joined : JOINED ≤ length out → Puts (join texts) out after n
  pub short : length out < JOINED → (n ≡ 0) × (after ≡ out)
