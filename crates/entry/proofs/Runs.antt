-- Along any run the words and replies of the functions are those that demand 3 and kept soundness speak of.
use Prim.Native.Nat.{ℕ}
use mathlib.Core.Bool.{true}
use mathlib.Core.List.{List, [], ◌∷◌, map}
use mathlib.Core.Path.{◌≡◌, refl, ap, subst, ◌∙◌}
use Rattle.rows.specs.Layout.{state_of}
use Rattle.text.specs.declared.Reply.{Reply}
use Rattle.text.specs.Entry.{Replied, open_entry, call_entry}
use Rattle.text.specs.vocabulary.Replies.{in_reply}
use Rattle.text.specs.vocabulary.Sizes.{REPLY}
use Rattle.text.proofs.GroupLaws.{take-pad}
use Rattle.text.proofs.ShortReplies.{call-short, open-short}
use lib.ListN.{length}
use Prim.Native.Nat.{◌≤◌}
use Rattle.history.specs.History.{History}
use Rattle.history.specs.Reading.{begun, accepts, history_after}
use Rattle.history.specs.Demand3.{Revoked, lent_after, replies_to, state_in, Demand3}
use Rattle.history.proofs.Demand3.{demand3}
use Rattle.history.proofs.Kept.{kept}
use Rattle.entry.specs.vocabulary.Entries.{Replies}
use Rattle.entry.specs.Runs.{Called, Runs, tables_after, records_after, text_in, history_of, RevokedBy, Whole, EveryRun}

-- the bytes of a reply are the definition's
text-in : (text : List ℕ) (r : Reply) → length text ≤ REPLY → r ≡ in_reply text → text_in r ≡ text
unfolding text_in in_reply
text-in text r short is = ap text_in is ∙ take-pad REPLY text short

-- ---- words and replies along a run
pub record Follows (w : Replied) (t p : List ℕ) (cs : List Called) : Type 0 where
  pub tables : tables_after t cs ≡ (lent_after w (map (λ c. c.line) cs)).tables
  pub records : records_after p cs ≡ (lent_after w (map (λ c. c.line) cs)).processes
  pub replies : map (λ c. text_in c.reply) cs ≡ replies_to w (map (λ c. c.line) cs)

follows : (cs : List Called) (w : Replied) (t p : List ℕ) → t ≡ w.tables → p ≡ w.processes → Runs t p cs → Follows w t p cs
unfolding Runs tables_after records_after lent_after replies_to
follows [] w t p et ep run = record { tables = et; records = ep; replies = refl }
follows (c ∷ cs) w t p et ep (met, run) =
    let o = call_entry w.tables w.processes c.line in
    let e : call_entry t p c.line ≡ o = λ i. call_entry (et i) (ep i) c.line in
    let (is, tables, records) = subst (λ x. Replies x c.reply c.tables c.processes) e met in
    let rest = follows cs o c.tables c.processes tables records run in
    let first : text_in c.reply ≡ o.reply = text-in o.reply c.reply (call-short w.tables w.processes c.line) is in
    record { tables = rest.tables; records = rest.records; replies = λ i. first i ∷ rest.replies i }

-- ---- the theorem
module _ (tables processes text : List ℕ) (r : Reply) (t p : List ℕ) (met : Replies (open_entry tables processes text) r t p) (accepted : accepts (text_in r) ≡ true)
    (cs : List Called) (run : Runs t p cs) where
  abbrev opened : Replied
  opened = open_entry tables processes text

  abbrev lines : List (List ℕ)
  lines = map (λ c. c.line) cs

  said : text_in r ≡ opened.reply
  said = text-in opened.reply r (open-short tables processes text) met.0

  taken : accepts opened.reply ≡ true
  taken = subst (λ (x : List ℕ). accepts x ≡ true) said accepted

  along : Follows opened t p cs
  along = follows cs opened t p met.1 met.2 run

  history-same : history_of text cs ≡ history_after (begun text) lines (replies_to opened lines)
  unfolding history_of
  history-same = ap (history_after (begun text) lines) along.replies

  state-same : state_of (tables_after t cs) (records_after p cs) ≡ state_in (lent_after opened lines)
  unfolding state_in
  state-same = λ i. state_of (along.tables i) (along.records i)

  abbrev after : Replied
  after = lent_after opened lines

  abbrev heard : History
  heard = history_after (begun text) lines (replies_to opened lines)

  whole : Whole text (tables_after t cs) (records_after p cs) cs
  unfolding Demand3 RevokedBy Revoked state_in
  whole =
      let (holds, revoked) = demand3 tables processes text taken lines in
      record {
        sound = rw (along.tables, along.records) (kept.session-sound tables processes text taken lines);
        holds = rw (history-same, state-same) holds;
        revoked = λ c met a q reads yes.
            let o = call_entry after.tables after.processes c.line in
            let e : call_entry (tables_after t cs) (records_after p cs) c.line ≡ o = λ i. call_entry (along.tables i) (along.records i) c.line in
            let (is, et, ep) = subst (λ x. Replies x c.reply c.tables c.processes) e met in
            let says : text_in c.reply ≡ o.reply = text-in o.reply c.reply (call-short after.tables after.processes c.line) is in
            let done = revoked c.line a q reads (subst (λ (x : List ℕ). accepts x ≡ true) says yes) in
            rw (history-same, state-same, says, et, ep) done;
      }

pub every-run : EveryRun
unfolding EveryRun
every-run = whole
