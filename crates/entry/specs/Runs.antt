-- What holds of the functions open and call along any list of lines: from their contracts alone, with nothing between code and claim.
use Rattle.std.specs.Prelude.{ℕ, true, List, [], ◌∷◌, map, ◌≡◌, take}
use Rattle.rows.specs.Tables.{State}
use Rattle.rows.specs.Layout.{state_of, sound_words}
use Rattle.calls.specs.declared.Call.TheVariants.{Revoke}
use Rattle.text.specs.declared.Reading.TheVariants.{Asks}
use Rattle.text.specs.declared.Reply.{Reply}
use Rattle.text.specs.CallLines.{reading_of}
use Rattle.text.specs.Entry.{open_entry, call_entry}
use Rattle.history.specs.History.{History}
use Rattle.history.specs.Reading.{begun, accepts, note_line, history_after}
use Rattle.history.specs.Demand3.{Holds, Vanished, Returned}
use Rattle.entry.specs.vocabulary.Entries.{Replies}

-- ---- a run
-- (rule P30) what a call was lent as its line, and what it gave: the reply and both runs
pub record Called : Type 0 where
  pub line : List ℕ
  pub reply : Reply
  pub tables : List ℕ
  pub processes : List ℕ

-- (rule P30) each call meets the contract of the function call, on the words that the last one left
unfoldable pub Runs : List ℕ → List ℕ → List Called → Type 0
Runs t p [] = Unit {0}
Runs t p (c ∷ cs) =
    Replies (call_entry t p c.line) c.reply c.tables c.processes × Runs c.tables c.processes cs

-- (rule P30) both runs of words after the last call
unfoldable pub tables_after : List ℕ → List Called → List ℕ
tables_after t [] = t
tables_after t (c ∷ cs) = tables_after c.tables cs

unfoldable pub records_after : List ℕ → List Called → List ℕ
records_after p [] = p
records_after p (c ∷ cs) = records_after c.processes cs

-- ---- its history
-- (rule P30) the bytes of a reply
unfoldable pub text_in : Reply → List ℕ
text_in r = take r.length r.bytes

-- (rules P30, H1) the history of the text, the lines and the replies
unfoldable pub history_of : List ℕ → List Called → History
history_of text cs = history_after (begun text) (map (λ c. c.line) cs) (map (λ c. text_in c.reply) cs)

-- ---- what holds
-- (rules P7, P30) of a call that revokes q and is accepted
unfoldable pub RevokedBy : History → State → Called → ℕ → Type 0
RevokedBy h st c q =
    let st' = state_of c.tables c.processes in
    Vanished h st st' q × Returned h (note_line h c.line (text_in c.reply)) st'

-- (rules P3, P5, P6, P7, P30) after an accepted opening and any calls: the tables are sound and those of the history; and
-- of one more call, an accepted revoke, what vanishes and where ends go
pub record Whole (text t p : List ℕ) (cs : List Called) : Type 0 where
  pub sound : sound_words t p ≡ true
  pub holds : Holds (history_of text cs) (state_of t p)
  pub revoked : (c : Called) → Replies (call_entry t p c.line) c.reply c.tables c.processes → (a q : ℕ)
      → reading_of c.line ≡ Asks (Revoke a q) → accepts (text_in c.reply) ≡ true
      → RevokedBy (history_of text cs) (state_of t p) c q

-- (rule P30) for any words lent, any text, and any list of lines
unfoldable pub EveryRun : Type 0
EveryRun =
    (tables processes text : List ℕ) (r : Reply) (t p : List ℕ) → Replies (open_entry tables processes text) r t p
    → accepts (text_in r) ≡ true
    → (cs : List Called) → Runs t p cs → Whole text (tables_after t cs) (records_after p cs) cs
