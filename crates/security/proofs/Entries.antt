-- The states that sessions reach are those after any lines, by the entry points on words.
use Prim.Native.Nat.{ℕ}
use mathlib.Core.Bool.{true}
use mathlib.Core.List.{List, [], ◌∷◌, ◌++◌}
use mathlib.Core.Path.{◌≡◌, refl, sym, ap, ◌∙◌, subst}
use Rattle.rows.specs.Tables.{State}
use Rattle.rows.specs.Layout.{right_lengths, state_of}
use Rattle.tables.proofs.Sound.{Sound}
use Rattle.tables.proofs.Words.{state-words}
use Rattle.calls.specs.declared.Call.{Call}
use Rattle.calls.specs.declared.Call.TheVariants.{Go, Hold, Register, Drop, Port, Close, Ask, Fetch, Revoke, Comes, Chain, ComesAll}
use Rattle.calls.specs.Answers.{num, values_of}
use Rattle.calls.specs.Rules.{Out}
use Rattle.calls.specs.Calls.{fetched_answer, effect}
use Rattle.text.specs.Opening.{Form}
use Rattle.text.specs.Answers.{printed, ok_text}
use Rattle.text.specs.Entry.{Replied, call_on, reply_with, call_entry, state_opened, opened_by, open_entry}
use Rattle.history.specs.Reading.{accepts}
use Rattle.history.specs.Demand3.{lent_after, replies_to, state_in}
use Rattle.history.proofs.Inv.{first_value}
use Rattle.history.proofs.Answered.{read-ok0}
use Rattle.history.proofs.Kept.{opened-as, opening-fits, call-on-words}
use Rattle.security.specs.Sessions.{Log, logged, Session, opened, called, note_fetch_call, note_fetch_reading, note_fetch, fetches_after, Reached, Reaches, Entries}
use Rattle.security.proofs.Sessions.{session-sound}
use Rattle.security.proofs.Lines.{Heard, refuses, allows, heard}

-- ---- a line
-- an accepted answer to a fetch names the request
answer-logged : (st : State) (log : Log) (c : Call) → note_fetch_call c (first_value (values_of (effect st c).answer)) log ≡ logged st c log
unfolding note_fetch_call logged effect fetched_answer values_of first_value
answer-logged st log (Go p e) = refl
answer-logged st log (Hold p s) = refl
answer-logged st log (Register p e) = refl
answer-logged st log (Drop p e) = refl
answer-logged st log (Port p e) = refl
answer-logged st log (Close p c) = refl
answer-logged st log (Ask p c is) = refl
answer-logged st log (Fetch p v) = refl
answer-logged st log (Call.Answer p v served) = refl
answer-logged st log (Revoke p q) = refl
answer-logged st log (Comes e q) = refl
answer-logged st log (Chain e) = refl
answer-logged st log (ComesAll es qs) = refl

module _ (st : State) (s : Sound st) (log : Log) (line : List ℕ) where
  abbrev o : Out
  o = call_on st line

  pub line-session : (fs : List Form) → Session fs log st → Session fs (note_fetch log line (printed o.answer)) o.after
  unfolding note_fetch note_fetch_reading accepts
  line-session fs x = pick (heard st s line)
    where
      at : (log' : Log) (st' : State) → note_fetch log line (printed o.answer) ≡ log' → o.after ≡ st' → Session fs log' st' → Session fs (note_fetch log line (printed o.answer)) o.after
      at log' st' a b x = subst (λ l. Session fs l o.after) (sym a) (subst (Session fs log') (sym b) x)

      pick : Heard st line → Session fs (note_fetch log line (printed o.answer)) o.after
      pick (refuses r u) = at log st (rw r refl) u x
      pick (allows c e z a i g) =
          at (logged st c log) o.after (rw (g.good, g.value, e) (answer-logged st log c)) refl
          (called log st o.after c x (record { line = line; reads = e; accepted = z; leaves = refl }))

-- ---- on words
record Along (fs : List Form) (log : Log) (w : Replied) : Type 0 where
  reply : List ℕ
  st : State
  is : w ≡ reply_with reply st
  session : Session fs log st

along-call : (fs : List Form) (log : Log) (w : Replied) → Along fs log w → (l : List ℕ)
    → Along fs (note_fetch log l (call_entry w.tables w.processes l).reply) (call_entry w.tables w.processes l)
unfolding reply_with
along-call fs log w a l =
    let s = session-sound fs log a.st a.session in
    let o = call_on a.st l in
    let q : call_entry w.tables w.processes l ≡ reply_with (printed o.answer) o.after =
    ap (λ x. call_entry x.tables x.processes l) a.is ∙ call-on-words a.reply a.st s l in
    record {
      reply = printed o.answer;
      st = o.after;
      is = q;
      session = subst (λ r. Session fs (note_fetch log l r) o.after) (sym (ap (λ x. x.reply) q)) (line-session a.st s log l fs a.session);
    }

along-lines : (fs : List Form) (log : Log) (w : Replied) → Along fs log w → (ls : List (List ℕ)) → Along fs (fetches_after log ls (replies_to w ls)) (lent_after w ls)
unfolding fetches_after replies_to lent_after
along-lines fs log w a [] = a
along-lines fs log w a (l ∷ ls) = let w' = call_entry w.tables w.processes l in along-lines fs (note_fetch log l w'.reply) w' (along-call fs log w a l) ls

pub state-in : (w : Replied) (reply : List ℕ) (st : State) → Sound st → w ≡ reply_with reply st → state_in w ≡ st
unfolding state_in reply_with
state-in w reply st s e = ap (λ x. state_of x.tables x.processes) e ∙ state-words st s

lines-reach : (t p text : List ℕ) → accepts (open_entry t p text).reply ≡ true → (lines : List (List ℕ))
    → Reached text (fetches_after [] lines (replies_to (open_entry t p text) lines)) (state_in (lent_after (open_entry t p text) lines))
lines-reach t p text a lines =
    let o = opened-as t p text a in
    let log = fetches_after [] lines (replies_to (open_entry t p text) lines) in
    let begin : Along o.forms [] (open_entry t p text) = record { reply = ok_text (num 0 ∷ []); st = state_opened o.forms; is = o.is; session = opened text o.rest o.reads } in
    let w = along-lines o.forms [] (open_entry t p text) begin lines in
    let s = session-sound o.forms log w.st w.session in
    record {
      forms = o.forms;
      rest = o.rest;
      reads = o.reads;
      session = subst (Session o.forms log) (sym (state-in (lent_after (open_entry t p text) lines) w.reply w.st s w.is)) w.session;
    }

-- ---- back: a session's calls have lines
-- a text and lines that leave the words of a state
record Left (t p : List ℕ) (st : State) : Type 0 where
  text : List ℕ
  lines : List (List ℕ)
  reply : List ℕ
  accepted : accepts (open_entry t p text).reply ≡ true
  is : lent_after (open_entry t p text) lines ≡ reply_with reply st

one_more : (w : Replied) (ls : List (List ℕ)) (l : List ℕ) → lent_after w (ls ++ (l ∷ [])) ≡ (let v = lent_after w ls in call_entry v.tables v.processes l)
unfolding lent_after
one_more w [] l = refl
one_more w (k ∷ ls) l = one_more (call_entry w.tables w.processes k) ls l

module _ (t p : List ℕ) (fits : right_lengths t p ≡ true) where
  left : (fs : List Form) (log : Log) (st : State) → Session fs log st → Left t p st
  unfolding opened_by reply_with lent_after
  left fs log st (opened text rest e) =
      let q : open_entry t p text ≡ reply_with (ok_text (num 0 ∷ [])) st = opening-fits t p text fits ∙ ap opened_by e in
      record { text = text; lines = []; reply = ok_text (num 0 ∷ []); accepted = ap (λ w. accepts w.reply) q ∙ read-ok0; is = q }
  left fs log st (called log' st' st'' c x k) =
      let w = left fs log' st' x in
      record {
        text = w.text;
        lines = w.lines ++ (k.line ∷ []);
        reply = printed (call_on st' k.line).answer;
        accepted = w.accepted;
        is =
            one_more (open_entry t p w.text) w.lines k.line
            ∙ ap (λ v. call_entry v.tables v.processes k.line) w.is
            ∙ call-on-words w.reply st' (session-sound fs log' st' x) k.line
            ∙ ap (reply_with (printed (call_on st' k.line).answer)) k.leaves;
      }

  reaching : (fs : List Form) (log : Log) (st : State) → Session fs log st → Reaches t p st
  reaching fs log st x =
      let w = left fs log st x in
      record { text = w.text; lines = w.lines; accepted = w.accepted; leaves = state-in _ w.reply st (session-sound fs log st x) w.is }

pub entries : Entries
entries = record { reached = lines-reach; reaches = reaching }
