-- Demand 3: the history of the text, the lines and their answers tells the tables after every list of lines.
use Prim.Native.Nat.{ℕ, ◌<◌}
use native.Mathlib.Omega.{arith}
use mathlib.Core.Bool.{Bool, true, false, not, cond}
use mathlib.Core.List.{List, [], ◌∷◌}
use mathlib.Core.Path.{◌≡◌, refl, sym, ap, ◌∙◌, subst}
use lib.Dec.{leb}
use Rattle.rows.specs.declared.Row.{Row}
use Rattle.rows.specs.Codes.{is_end}
use Rattle.rows.specs.Lists.{all}
use Rattle.rows.specs.Tables.{State, row_of, is_listed}
use Rattle.rows.specs.Layout.{state_of}
use Rattle.rows.proofs.Bools.{clash, and_l}
use borrow.Author.Tests.{leb-true}
use Rattle.tables.proofs.Sound.{Sound}
use Rattle.tables.proofs.Words.{state-words}
use Rattle.closing.specs.Closing.{close_request}
use Rattle.calls.specs.declared.Call.{Call}
use Rattle.calls.specs.declared.Call.TheVariants.{Revoke}
use Rattle.calls.specs.declared.Answer.TheVariants.{Done, Refused}
use Rattle.calls.specs.Answers.{refusal_of}
use Rattle.calls.specs.Rules.{Out, ◌when◌, refused}
use Rattle.calls.specs.Calls.{done, effect}
use Rattle.kept.proofs.Judged.{numbered, judged}
use Rattle.kept.proofs.Allowed.{RevokeAllowed}
use Rattle.text.specs.declared.Reading.{Reading}
use Rattle.text.specs.declared.Reading.TheVariants.{Asks, Crowded, Refused as BadLine}
use Rattle.text.specs.CallLines.{reading_of}
use Rattle.text.specs.Answers.{printed}
use Rattle.text.specs.Entry.{Replied, answered, call_on, reply_with, call_entry, open_entry}
use Rattle.text.proofs.Readings.{Good, reading-good}
use Rattle.text.proofs.Opening.{opened-sound}
use Rattle.text.specs.Opening.{lines_of}
use Rattle.history.specs.History.{History}
use Rattle.history.specs.Notes.{stands}
use Rattle.history.specs.Reading.{begun, accepts, note_line, history_after}
use Rattle.history.specs.Chains.{IsPort}
use Rattle.history.specs.Demand3.{lent_after, replies_to, state_in, InTables, Holds, Vanished, Returned, Revoked, Demand3}
use Rattle.history.proofs.Inv.{Inv, Lends, view, note_answer}
use Rattle.history.proofs.Find.{in-tables, row-noted}
use Rattle.history.proofs.Standing.{stands-chains, port-open, request-closed}
use Rattle.history.proofs.StepsInv.{call-inv}
use Rattle.history.proofs.Allowed.{Allowed, call-has}
use Rattle.history.proofs.LoansSteps.{call-lends}
use Rattle.history.proofs.Spoken.{call-spoken}
use Rattle.history.proofs.Answered.{read-refused, note-asked, note-crowded, note-refused}
use Rattle.history.proofs.Start.{begun-inv, begun-lends}
use Rattle.history.proofs.KeptCalls.{call_kept}
use Rattle.history.proofs.Kept.{opened-as, call-on-words}
use Rattle.history.proofs.TwoEnds.{two_ends}
use Rattle.history.proofs.Vanish.{revoke-vanished}
use Rattle.history.proofs.Returns.{revoke-returned}

-- ---- what holds of a history and the words left, line by line
pub record Along (h : History) (w : Replied) : Type 0 where
  pub reply : List ℕ
  pub st : State
  pub is : w ≡ reply_with reply st
  pub sound : Sound st
  pub inv : Inv h st
  pub lends : Lends h st

-- a line with too many items leaves the state
crowded-stays : (P : State → Type 0) (st : State) (p : ℕ) → P st → P (answered st (Crowded p)).after
unfolding answered refused numbered all
crowded-stays P st p x = judged (λ o. P o.after) st (5 when not (is_listed st.processes p) ∷ []) (refused st 6) (λ k r. x) refl (λ _. x)

-- a line on a state, and what is noted of it
pub record Step (h : History) (st : State) (line : List ℕ) : Type 0 where
  pub inv : Inv (note_line h line (printed (call_on st line).answer)) (call_on st line).after
  pub lends : Lends (note_line h line (printed (call_on st line).answer)) (call_on st line).after

pub step : (h : History) (st : State) → Sound st → Inv h st → Lends h st → (line : List ℕ) → Step h st line
unfolding call_on
step h st s i l line = pick (reading_of line) refl
  where
    noted : (h' : History) (o : Out) → call_on st line ≡ o → note_line h line (printed (call_on st line).answer) ≡ h' → Inv h' o.after → Lends h' o.after → Step h st line
    noted h' o e n i l =
        record {
          inv = subst (λ x. Inv x (call_on st line).after) (sym n) (subst (λ x. Inv h' x.after) (sym e) i);
          lends = subst (λ x. Lends x (call_on st line).after) (sym n) (subst (λ x. Lends h' x.after) (sym e) l);
        }

    pick : (x : Reading) → reading_of line ≡ x → Step h st line
    pick (Asks c) e =
        let o = answered st (Asks c) in
        let q : call_on st line ≡ o = ap (answered st) e in
        let g = reading-good line c e in
        noted (note_answer h c o.answer) o q (note-asked h line c st (call_on st line) e (call-spoken st s line) ∙ ap (λ x. note_answer h c x.answer) q)
        (call-inv h st i s c g).inv (call-lends h st i l s c g).after
    pick (Crowded p) e =
        noted h (answered st (Crowded p)) (ap (answered st) e) (note-crowded h line (printed (call_on st line).answer) p e)
        (crowded-stays (Inv h) st p i) (crowded-stays (Lends h) st p l)
    pick (BadLine k) e =
        noted h (answered st (BadLine k)) (ap (answered st) e) (note-refused h line (printed (call_on st line).answer) k e)
        (unfold answered refused in i) (unfold answered refused in l)

pub along-call : (h : History) (w : Replied) → Along h w → (l : List ℕ) → Along (note_line h l (call_entry w.tables w.processes l).reply) (call_entry w.tables w.processes l)
unfolding reply_with
along-call h w a l =
    let o = call_on a.st l in
    let q : call_entry w.tables w.processes l ≡ reply_with (printed o.answer) o.after =
    ap (λ x. call_entry x.tables x.processes l) a.is ∙ call-on-words a.reply a.st a.sound l in
    let k = step h a.st a.sound a.inv a.lends l in
    record {
      reply = printed o.answer;
      st = o.after;
      is = q;
      sound = call_kept a.st a.sound l;
      inv = subst (λ r. Inv (note_line h l r) o.after) (sym (ap (λ x. x.reply) q)) k.inv;
      lends = subst (λ r. Lends (note_line h l r) o.after) (sym (ap (λ x. x.reply) q)) k.lends;
    }

pub along-lines : (h : History) (w : Replied) → Along h w → (ls : List (List ℕ)) → Along (history_after h ls (replies_to w ls)) (lent_after w ls)
unfolding history_after replies_to lent_after
along-lines h w a [] = a
along-lines h w a (l ∷ ls) = let w' = call_entry w.tables w.processes l in along-lines (note_line h l w'.reply) w' (along-call h w a l) ls

pub along-opening : (t p text : List ℕ) → accepts (open_entry t p text).reply ≡ true → Along (begun text) (open_entry t p text)
along-opening t p text a =
    let o = opened-as t p text a in
    record {
      reply = _;
      st = _;
      is = o.is;
      sound = opened-sound (lines_of text) o.rest o.forms o.reads;
      inv = begun-inv text o.forms o.rest o.reads;
      lends = begun-lends text o.forms o.rest o.reads;
    }

-- ---- 1 and 2
-- the port of a row's view
view-port : (r : Row) (c : ℕ) → 0 < c → (view r).port ≡ c → (is_end r.kind ≡ true) × (r.object ≡ c)
unfolding view
view-port r c h e = pick (is_end r.kind) refl e
  where
    pick : (b : Bool) → is_end r.kind ≡ b → cond b r.object 0 ≡ c → (is_end r.kind ≡ true) × (r.object ≡ c)
    pick true q e = (q, e)
    pick false q e = absurd (omega arith)

holds : (h : History) (st : State) → Sound st → Inv h st → Holds h st
unfolding InTables IsPort
holds h st s i =
    record {
      exactly = λ n. ((λ t. (stands-chains h i.fit n).0 (sym (in-tables h st i n) ∙ t)), (λ k. in-tables h st i n ∙ (stands-chains h i.fit n).1 k));
      ports = λ c p g.
          let up : stands h c ≡ true = (port-open h i.fit c p).1 g in
          let (k, o) = view-port (row_of st.rows c) c p.0 (sym (ap (λ r. r.port) (row-noted h st i c up)) ∙ p.1) in
          two_ends st s c (in-tables h st i c ∙ up) k o;
      standing = λ n. stands-chains h i.fit n;
      closed = λ q c a. request-closed h i.fit q c a;
    }

pub state-in : (w : Replied) (reply : List ℕ) (st : State) → Sound st → w ≡ reply_with reply st → state_in w ≡ st
unfolding state_in reply_with
state-in w reply st s e = ap (λ x. state_of x.tables x.processes) e ∙ state-words st s

-- ---- 3
not-refused : (k : ℕ) → 0 < k → accepts (printed (Refused k)) ≡ true → ⊥
unfolding refusal_of
not-refused k h e = clash e (read-refused (Refused k) h)

-- a call whose answer is read as accepted is allowed, and had its effect
pub record Taken (st : State) (c : Call) (o : Out) : Type 0 where
  pub allows : Allowed st c
  pub is : o ≡ effect st c

taken : (st : State) → Sound st → (c : Call) → Good c → accepts (printed (answered st (Asks c)).answer) ≡ true → Taken st c (answered st (Asks c))
unfolding refused
taken st s c g =
    call-has (λ o. accepts (printed o.answer) ≡ true → Taken st c o) st s
    (λ k r e. absurd (not-refused k (let l = leb-true 2 k (and_l (leb 2 k) (leb k 18) r) in omega arith) e)) c g
    (λ a _. record { allows = a; is = refl })

-- a line that asks for the call c, after these
module _ (h : History) (w : Replied) (a : Along h w) (line : List ℕ) (c : Call) (e : reading_of line ≡ Asks c) where
  o : Out
  o = call_on a.st line

  w' : Replied
  w' = call_entry w.tables w.processes line

  called : w' ≡ reply_with (printed o.answer) o.after
  unfolding w' o
  called = ap (λ x. call_entry x.tables x.processes line) a.is ∙ call-on-words a.reply a.st a.sound line

  replied : w'.reply ≡ printed o.answer
  unfolding reply_with
  replied = ap (λ x. x.reply) called

  read : o ≡ answered a.st (Asks c)
  unfolding o call_on
  read = ap (answered a.st) e

  pub answered-as : (call_entry w.tables w.processes line).reply ≡ printed (answered a.st (Asks c)).answer
  unfolding w'
  answered-as = replied ∙ ap (λ x. printed x.answer) read

  pub taken_as : accepts (call_entry w.tables w.processes line).reply ≡ true → Taken a.st c (answered a.st (Asks c))
  taken_as acc = taken a.st a.sound c (reading-good line c e) (sym (ap accepts answered-as) ∙ acc)

module _ (h : History) (w : Replied) (a : Along h w) (line : List ℕ) (p q : ℕ) (e : reading_of line ≡ Asks (Revoke p q)) (acc : accepts (call_entry w.tables w.processes line).reply ≡ true) where
  abbrev call : Call
  call = Revoke p q

  abbrev left : Replied
  left = call_entry w.tables w.processes line

  allows : RevokeAllowed a.st p q
  unfolding Allowed
  allows = (taken_as h w a line call e acc).allows

  is-revoke : call_on a.st line ≡ done (close_request q a.st)
  unfolding effect call_on
  is-revoke = ap (answered a.st) e ∙ (taken_as h w a line call e acc).is

  called-so : left ≡ reply_with (printed (call_on a.st line).answer) (call_on a.st line).after
  unfolding w' o
  called-so = called h w a line call e

  before : state_in w ≡ a.st
  before = state-in w a.reply a.st a.sound a.is

  after : state_in left ≡ close_request q a.st
  unfolding done
  after = state-in left (printed (call_on a.st line).answer) (call_on a.st line).after (call_kept a.st a.sound line) called-so ∙ ap (λ x. x.after) is-revoke

  noted-so : note_line h line left.reply ≡ note_answer h (Revoke p q) Done
  unfolding done reply_with
  noted-so =
      ap (λ x. note_line h line x.reply) called-so
      ∙ note-asked h line (Revoke p q) a.st (call_on a.st line) e (call-spoken a.st a.sound line)
      ∙ ap (λ x. note_answer h (Revoke p q) x.answer) is-revoke

  vanished : Vanished h (state_in w) (state_in left) q
  vanished = subst (λ x. Vanished h x (state_in left) q) (sym before) (subst (λ x. Vanished h a.st x q) (sym after) (revoke-vanished h a.st a.inv a.sound p q allows))

  returned : Returned h (note_line h line left.reply) (state_in left)
  returned =
      subst (λ x. Returned h x (state_in left)) (sym noted-so)
      (subst (λ x. Returned h (note_answer h (Revoke p q) Done) x) (sym after) (revoke-returned h a.st a.inv a.lends a.sound p q allows))

  revoked : Revoked h w line q
  unfolding Revoked
  revoked = (vanished, returned)

pub demand3 : Demand3
unfolding Demand3
demand3 t p text a ls =
    let s = along-lines (begun text) (open_entry t p text) (along-opening t p text a) ls in (
      subst (Holds _) (sym (state-in _ s.reply s.st s.sound s.is)) (holds _ s.st s.sound s.inv),
      λ line p q e acc. revoked _ _ s line p q e acc,
    )
