-- Kept soundness, on the lent words.
use Prim.Native.Nat.{ℕ, zero, suc, ◌<◌, ◌≤◌}
use native.Mathlib.Omega.{arith}
use mathlib.Core.Bool.{Bool, true, false, not, cond, ◌&&◌, ◌||◌}
use mathlib.Core.List.{List, [], ◌∷◌, ◌++◌}
use mathlib.Core.Path.{◌≡◌, refl, sym, ap, ◌∙◌}
use lib.Dec.{leb, eqb}
use borrow.Author.Tests.{eqb-true, eqb-false, leb-true}
use Rattle.rows.specs.Lists.{all, member, same_list, bytes}
use Rattle.rows.specs.Tables.{State, empty}
use Rattle.rows.specs.Sound.{sound}
use Rattle.rows.specs.Layout.{words_of, records_of, state_of, right_lengths, sound_words, cleared_tables, cleared_processes}
use Rattle.rows.proofs.Bools.{clash, and_l, and_r, not_t, all-at}
use Rattle.tables.proofs.Sound.{Sound, sound-open}
use Rattle.rows.proofs.LayoutColumns.{list_same}
use Rattle.tables.proofs.Words.{state-words, words-state, sound-words}
use Rattle.calls.specs.Answers.{num, refusal_of, values_of}
use Rattle.calls.specs.Rules.{Out, is_refusal}
use Rattle.text.specs.Opening.{Form, Opening, opens, refused_at, lines_of, opening_of}
use Rattle.text.specs.Answers.{decimal, digits_of, value_text, spaced, ok_text, no_text, printed}
use Rattle.text.specs.Entry.{Replied, call_on, reply_with, reply_of, call_entry, state_opened, opened_by, open_entry}
use Rattle.text.specs.Session.{answers, session_of, session}
use Rattle.text.proofs.Opening.{opened-sound}
use Rattle.history.specs.Reading.{down_from, accepts}
use Rattle.history.specs.Demand3.{lent_after, replies_to}
use Rattle.history.specs.Kept.{Kept, joined}
use Rattle.history.proofs.Spoken.{call-spoken}
use Rattle.history.proofs.Answered.{read-accepted, read_no, read-ok0}
use Rattle.history.proofs.KeptCalls.{call_kept}

-- ---- sound words
pub words-sound : (t p : List ℕ) → sound_words t p ≡ true → Sound (state_of t p)
unfolding sound_words
words-sound t p e =
    sound-open (state_of t p) (and_r (same_list (words_of (state_of t p)) t) (sound (state_of t p)) (and_r (right_lengths t p) (same_list (words_of (state_of t p)) t && sound (state_of t p)) e))

-- ---- the entry points by cases
pub opening-fits : (t p text : List ℕ) → right_lengths t p ≡ true → open_entry t p text ≡ opened_by (opening_of (lines_of text))
unfolding open_entry
opening-fits t p text l = rw l refl

misfit : (t p text : List ℕ) → right_lengths t p ≡ false → open_entry t p text ≡ record { reply = no_text (1 ∷ 0 ∷ []); tables = cleared_tables t; processes = cleared_processes p }
unfolding open_entry
misfit t p text l = rw l refl

pub call-fits : (t p line : List ℕ) → sound_words t p ≡ true → call_entry t p line ≡ reply_of (call_on (state_of t p) line)
unfolding call_entry
call-fits t p line e = rw e refl

call-misfits : (t p line : List ℕ) → sound_words t p ≡ false → call_entry t p line ≡ record { reply = no_text (1 ∷ []); tables = t; processes = p }
unfolding call_entry
call-misfits t p line e = rw e refl

-- ---- an opening
-- the forms of an accepted opening, and what it replies and leaves
pub record Opened (t p text : List ℕ) : Type 0 where
  pub forms : List Form
  pub rest : List (List ℕ)
  pub reads : opening_of (lines_of text) ≡ opens forms rest
  pub is : open_entry t p text ≡ reply_with (ok_text (num 0 ∷ [])) (state_opened forms)

pub opened-as : (t p text : List ℕ) → accepts (open_entry t p text).reply ≡ true → Opened t p text
unfolding opened_by reply_with
opened-as t p text a = pick (right_lengths t p) refl (opening_of (lines_of text)) refl
  where
    pick : (b : Bool) → right_lengths t p ≡ b → (o : Opening) → opening_of (lines_of text) ≡ o → Opened t p text
    pick true l (opens fs rest) e = record { forms = fs; rest = rest; reads = e; is = opening-fits t p text l ∙ ap opened_by e }
    pick true l (refused_at k n) e = clash a (ap (λ w. accepts w.reply) (opening-fits t p text l ∙ ap opened_by e) ∙ read_no (k ∷ n ∷ []))
    pick false l o e = clash a (ap (λ w. accepts w.reply) (misfit t p text l) ∙ read_no (1 ∷ 0 ∷ []))

-- a reply's words are sound where its state is
reply-sound : (text : List ℕ) (st : State) → Sound st → sound_words (reply_with text st).tables (reply_with text st).processes ≡ true
unfolding reply_with
reply-sound text st s = sound-words st s

opened-kept : (t p text : List ℕ) → accepts (open_entry t p text).reply ≡ true → sound_words (open_entry t p text).tables (open_entry t p text).processes ≡ true
opened-kept t p text a =
    let o = opened-as t p text a in
    ap (λ w. sound_words w.tables w.processes) o.is ∙ reply-sound (ok_text (num 0 ∷ [])) (state_opened o.forms) (opened-sound (lines_of text) o.rest o.forms o.reads)

refused-empty : (t p text : List ℕ) → right_lengths t p ≡ true → accepts (open_entry t p text).reply ≡ false
    → ((open_entry t p text).tables ≡ words_of empty) × ((open_entry t p text).processes ≡ records_of empty.processes)
unfolding opened_by reply_with
refused-empty t p text l a = pick (opening_of (lines_of text)) refl
  where
    pick : (o : Opening) → opening_of (lines_of text) ≡ o → ((open_entry t p text).tables ≡ words_of empty) × ((open_entry t p text).processes ≡ records_of empty.processes)
    pick (opens fs rest) e = clash (ap (λ w. accepts w.reply) (opening-fits t p text l ∙ ap opened_by e) ∙ read-ok0) a
    pick (refused_at k n) e = let q = opening-fits t p text l ∙ ap opened_by e in (ap (λ w. w.tables) q, ap (λ w. w.processes) q)

-- ---- a call
called-kept : (t p line : List ℕ) → sound_words t p ≡ true → sound_words (call_entry t p line).tables (call_entry t p line).processes ≡ true
unfolding reply_of
called-kept t p line e =
    ap (λ w. sound_words w.tables w.processes) (call-fits t p line e) ∙ reply-sound _ (call_on (state_of t p) line).after (call_kept (state_of t p) (words-sound t p e) line)

-- an answer without a refusal is read as accepted
accepted-read : (st : State) → Sound st → (line : List ℕ) → refusal_of (call_on st line).answer ≡ 0 → accepts (printed (call_on st line).answer) ≡ true
accepted-read st s line z = let k = call-spoken st s line in (read-accepted (call_on st line).answer z (k.has_value z) (k.in-range z)).good

refused-kept : (t p line : List ℕ) → accepts (call_entry t p line).reply ≡ false → ((call_entry t p line).tables ≡ t) × ((call_entry t p line).processes ≡ p)
unfolding reply_of reply_with
refused-kept t p line a = pick (sound_words t p) refl
  where
    st : State
    st = state_of t p

    o : Out
    o = call_on st line

    left : sound_words t p ≡ true → (b : Bool) → eqb (refusal_of o.answer) 0 ≡ b → o.after ≡ st
    left e true q =
        clash (ap (λ w. accepts w.reply) (call-fits t p line e) ∙ accepted-read st (words-sound t p e) line (eqb-true (refusal_of o.answer) 0 q)) a
    left e false q = (call-spoken st (words-sound t p e) line).untouched (let n = eqb-false (refusal_of o.answer) 0 q in omega arith)

    pick : (b : Bool) → sound_words t p ≡ b → ((call_entry t p line).tables ≡ t) × ((call_entry t p line).processes ≡ p)
    pick true e =
        let same = left e (eqb (refusal_of o.answer) 0) refl in
        let back = words-state t p e in (
          ap (λ w. w.tables) (call-fits t p line e) ∙ ap words_of same ∙ back.0,
          ap (λ w. w.processes) (call-fits t p line e) ∙ ap (λ x. records_of x.processes) same ∙ back.1,
        )
    pick false e = (ap (λ w. w.tables) (call-misfits t p line e), ap (λ w. w.processes) (call-misfits t p line e))

-- ---- no call answers 1
-- 1 to m
member-down : (m k : ℕ) → 0 < k → k ≤ m → member k (down_from m) ≡ true
unfolding down_from member
member-down zero k h l = absurd (omega arith)
member-down (suc m) k h l = pick (member-down m k h) (eqb k (suc m)) refl
  where
    pick : (k ≤ m → member k (down_from m) ≡ true) → (b : Bool) → eqb k (suc m) ≡ b → b || member k (down_from m) ≡ true
    pick ih true q = refl
    pick ih false q = ih (let n = eqb-false k (suc m) q in omega arith)

-- of the refusals to 18, 1 alone is printed as `(no 1)`
not-printed-one : all (λ k. eqb k 1 || not (same_list (no_text (k ∷ [])) (no_text (1 ∷ [])))) (down_from 18) ≡ true
unfolding all down_from same_list no_text spaced value_text digits_of decimal bytes
not-printed-one = refl

printed-one : (k : ℕ) → is_refusal k ≡ true → no_text (k ∷ []) ≡ no_text (1 ∷ []) → ⊥
printed-one k r e =
    let lo = leb-true 2 k (and_l (leb 2 k) (leb k 18) r) in
    let hi = leb-true k 18 (and_r (leb 2 k) (leb k 18) r) in
    pick (eqb k 1) refl (all-at _ (down_from 18) not-printed-one k (member-down 18 k (omega arith) hi)) lo
  where
    same : same_list (no_text (k ∷ [])) (no_text (1 ∷ [])) ≡ true
    same = ap (λ l. same_list l (no_text (1 ∷ []))) e ∙ list_same (no_text (1 ∷ []))

    pick : (b : Bool) → eqb k 1 ≡ b → b || not (same_list (no_text (k ∷ [])) (no_text (1 ∷ []))) ≡ true → 2 ≤ k → ⊥
    pick true q u lo = let z = eqb-true k 1 q in omega arith
    pick false q u lo = clash same (not_t _ u)

one-never : (t p line : List ℕ) → sound_words t p ≡ true → (call_entry t p line).reply ≡ no_text (1 ∷ []) → ⊥
unfolding reply_of reply_with printed
one-never t p line e r = pick (eqb (refusal_of o.answer) 0) refl
  where
    st : State
    st = state_of t p

    o : Out
    o = call_on st line

    replied : printed o.answer ≡ no_text (1 ∷ [])
    replied = sym (ap (λ w. w.reply) (call-fits t p line e)) ∙ r

    pick : (b : Bool) → eqb (refusal_of o.answer) 0 ≡ b → ⊥
    pick true q = clash (accepted-read st (words-sound t p e) line (eqb-true (refusal_of o.answer) 0 q)) (ap accepts replied ∙ read_no (1 ∷ []))
    pick false q =
        printed-one (refusal_of o.answer) ((call-spoken st (words-sound t p e) line).numbered (let n = eqb-false (refusal_of o.answer) 0 q in omega arith))
        (sym (ap (λ b. cond b (ok_text (values_of o.answer)) (no_text (refusal_of o.answer ∷ []))) q) ∙ replied)

-- ---- whole sessions
lines-sound : (w : Replied) → sound_words w.tables w.processes ≡ true → (ls : List (List ℕ)) → sound_words (lent_after w ls).tables (lent_after w ls).processes ≡ true
unfolding lent_after
lines-sound w e [] = e
lines-sound w e (l ∷ ls) = lines-sound (call_entry w.tables w.processes l) (called-kept w.tables w.processes l e) ls

-- a call on the words of a sound state is the call on the state
pub call-on-words : (text : List ℕ) (st : State) → Sound st → (l : List ℕ)
    → call_entry (reply_with text st).tables (reply_with text st).processes l ≡ reply_with (printed (call_on st l).answer) (call_on st l).after
unfolding reply_with reply_of
call-on-words text st s l = call-fits (words_of st) (records_of st.processes) l (sound-words st s) ∙ ap (λ x. reply_of (call_on x l)) (state-words st s)

reply-text : (text : List ℕ) (st : State) → (reply_with text st).reply ≡ text
unfolding reply_with
reply-text text st = refl

answers-replied : (text : List ℕ) (st : State) → Sound st → (ls : List (List ℕ)) → answers st ls ≡ joined (replies_to (reply_with text st) ls)
unfolding answers joined replies_to
answers-replied text st s [] = refl
answers-replied text st s (l ∷ ls) =
    let o = call_on st l in
    ap (λ a. printed o.answer ++ a) (answers-replied (printed o.answer) o.after (call_kept st s l) ls)
    ∙ sym (ap (λ w. w.reply ++ joined (replies_to w ls)) (call-on-words text st s l)
    ∙ ap (λ r. r ++ joined (replies_to (reply_with (printed o.answer) o.after) ls)) (reply-text (printed o.answer) o.after))

session-is : (t p input : List ℕ) → right_lengths t p ≡ true → (fs : List Form) (ls : List (List ℕ)) → opening_of (lines_of input) ≡ opens fs ls
    → session input ≡ (open_entry t p input).reply ++ joined (replies_to (open_entry t p input) ls)
unfolding session session_of opened_by
session-is t p input l fs ls e =
    ap session_of e ∙ ap (λ a. ok_text (num 0 ∷ []) ++ a) (answers-replied (ok_text (num 0 ∷ [])) (state_opened fs) (opened-sound (lines_of input) ls fs e) ls)
    ∙ sym (ap (λ r. r ++ joined (replies_to (reply_with (ok_text (num 0 ∷ [])) (state_opened fs)) ls)) (reply-text (ok_text (num 0 ∷ [])) (state_opened fs)))
    ∙ sym (ap (λ w. w.reply ++ joined (replies_to w ls)) (opening-fits t p input l ∙ ap opened_by e))

pub kept : Kept
kept =
    record {
      opened = opened-kept;
      opening-refused = refused-empty;
      opening-misfit = λ t p text l. let q = misfit t p text l in (ap (λ w. w.reply) q, ap (λ w. w.tables) q, ap (λ w. w.processes) q);
      called = called-kept;
      call-refused = refused-kept;
      never-one = one-never;
      session-sound = λ t p text a ls. lines-sound (open_entry t p text) (opened-kept t p text a) ls;
      session-replies = session-is;
    }
