-- What the entry points reply to an input line by line, and the words they leave: it is the session and its end, and the same of the lines kept.
use Prim.Native.Nat.{ℕ, suc}
use mathlib.Core.Bool.{Bool, true, false, cond}
use mathlib.Core.List.{List, [], ◌∷◌, ◌++◌, map, append-nil}
use mathlib.Core.Path.{◌≡◌, refl, sym, ap, subst, ◌∙◌}
use lib.Dec.{eqb}
use Rattle.rows.specs.Tables.{State, empty}
use Rattle.rows.specs.Layout.{right_lengths, sound_words, state_of}
use Rattle.tables.proofs.Sound.{Sound, sound-open}
use Rattle.text.specs.declared.Reading.{Reading}
use Rattle.text.specs.Opening.{Form, Line, last_line, form_line, bad_line, FirstPass, read_to, stopped_by, Opening, opens, refused_at, lines_of, line_of, form_refusal, first_pass, missing_at, second_pass, opening_of, cut}
use Rattle.text.specs.Answers.{ok_text, no_text, printed}
use Rattle.text.specs.Entry.{Replied, answered, call_on, reply_with, reply_of, call_entry, state_opened, opened_by, open_entry}
use Rattle.text.specs.Session.{session_of, session, state_after, end_of, session_end}
use Rattle.text.proofs.Opening.{opened-sound}
use Rattle.calls.specs.Answers.{num}
use Rattle.history.specs.Demand3.{replies_to}
use Rattle.history.specs.Kept.{joined}
use Rattle.history.proofs.Kept.{kept, call-on-words}
use Rattle.history.proofs.KeptCalls.{call_kept}
use Rattle.feed.specs.Prints.{Leaves}
use Rattle.text.proofs.PassLaws.{by_line, by-line}
use Rattle.text.proofs.KeptLines.{reading-cut, line-cut}

-- ---- the replies to an input, and the words at its end
-- a text, and then these
unfoldable pub saying : List ℕ → Replied → Replied
saying text w = record { reply = text ++ w.reply; tables = w.tables; processes = w.processes }

-- nothing is said after the last
pub saying-last : (w : Replied) → saying w.reply (record { reply = []; tables = w.tables; processes = w.processes }) ≡ w
unfolding saying
saying-last w = λ j. record { reply = append-nil w.reply j; tables = w.tables; processes = w.processes }

unfoldable pub answers_to : List ℕ → List ℕ → List (List ℕ) → Replied
answers_to t p [] = record { reply = []; tables = t; processes = p }
answers_to t p (l ∷ ls) = let o = call_entry t p l in saying o.reply (answers_to o.tables o.processes ls)

unfoldable pub replies_on : Opening → Replied
replies_on (opens fs rest) = let o = opened_by (opens fs rest) in saying o.reply (answers_to o.tables o.processes rest)
replies_on (refused_at k n) = opened_by (refused_at k n)

joined-replies : (w : Replied) (ls : List (List ℕ)) → joined (replies_to w ls) ≡ (answers_to w.tables w.processes ls).reply
unfolding joined replies_to answers_to saying
joined-replies w [] = refl
joined-replies w (l ∷ ls) = let o = call_entry w.tables w.processes l in ap (λ r. o.reply ++ r) (joined-replies o ls)

pub opening-fits : (t p text : List ℕ) → right_lengths t p ≡ true → open_entry t p text ≡ opened_by (opening_of (lines_of text))
unfolding open_entry
opening-fits t p text e = rw e

pub replies-session : (t p : List ℕ) → right_lengths t p ≡ true → (input : List ℕ) → (replies_on (opening_of (lines_of input))).reply ≡ session input
unfolding replies_on saying session session_of opened_by reply_with
replies-session t p r input = pick (opening_of (lines_of input)) refl
  where
    pick : (o : Opening) → opening_of (lines_of input) ≡ o → (replies_on (opening_of (lines_of input))).reply ≡ session_of (opening_of (lines_of input))
    pick (opens fs ls) e =
        let w = opened_by (opens fs ls) in
        let is : open_entry t p input ≡ w = opening-fits t p input r ∙ ap opened_by e in
        ap (λ v. (replies_on v).reply) e ∙ ap (λ a. w.reply ++ a) (sym (joined-replies w ls))
        ∙ sym (kept.session-replies t p input r fs ls e ∙ ap (λ v. v.reply ++ joined (replies_to v ls)) is)
    pick (refused_at k n) e = rw e

answers-end : (text : List ℕ) (st : State) → Sound st → (ls : List (List ℕ))
    → Leaves (answers_to (reply_with text st).tables (reply_with text st).processes ls) (state_after st ls)
unfolding answers_to saying state_after
answers-end text st s [] = unfold reply_with in (refl, refl)
answers-end text st s (l ∷ ls) =
    let o = call_on st l in
    subst (λ (w : Replied). Leaves (answers_to w.tables w.processes ls) (state_after o.after ls)) (sym (call-on-words text st s l))
    (answers-end (printed o.answer) o.after (call_kept st s l) ls)

pub replies-end : (input : List ℕ) → Leaves (replies_on (opening_of (lines_of input))) (session_end input)
unfolding replies_on saying session_end end_of opened_by
replies-end input = pick (opening_of (lines_of input)) refl
  where
    pick : (o : Opening) → opening_of (lines_of input) ≡ o → Leaves (replies_on (opening_of (lines_of input))) (end_of (opening_of (lines_of input)))
    pick (opens fs ls) e = rw e (answers-end (ok_text (num 0 ∷ [])) (state_opened fs) (opened-sound (lines_of input) ls fs e) ls)
    pick (refused_at k n) e = rw e (unfold reply_with in (refl, refl))

-- a session ends in a sound state
empty-sound : Sound empty
unfolding Rattle.rows.specs.Computes.computes
empty-sound = sound-open empty refl

lines-sound : (st : State) → Sound st → (ls : List (List ℕ)) → Sound (state_after st ls)
unfolding state_after
lines-sound st s [] = s
lines-sound st s (l ∷ ls) = lines-sound (call_on st l).after (call_kept st s l) ls

pub end-sound : (input : List ℕ) → Sound (session_end input)
unfolding session_end end_of
end-sound input = pick (opening_of (lines_of input)) refl
  where
    pick : (o : Opening) → opening_of (lines_of input) ≡ o → Sound (end_of (opening_of (lines_of input)))
    pick (opens fs ls) e = rw e (lines-sound (state_opened fs) (opened-sound (lines_of input) ls fs e) ls)
    pick (refused_at k n) e = rw e empty-sound

-- ---- the lines kept are answered as the lines are
call-cut : (t p l : List ℕ) → call_entry t p (cut l) ≡ call_entry t p l
unfolding call_entry call_on
call-cut t p l =
    ap (λ (r : Reading). cond (sound_words t p) (reply_of (answered (state_of t p) r)) (record { reply = no_text (1 ∷ []); tables = t; processes = p }))
    (reading-cut l)

answers-cut : (t p : List ℕ) (ls : List (List ℕ)) → answers_to t p (map cut ls) ≡ answers_to t p ls
unfolding answers_to
answers-cut t p [] = refl
answers-cut t p (l ∷ ls) =
    let o = call_entry t p l in
    ap (λ w. saying w.reply (answers_to w.tables w.processes (map cut ls))) (call-cut t p l)
    ∙ ap (saying o.reply) (answers-cut o.tables o.processes ls)

unfoldable cut_pass : FirstPass → FirstPass
cut_pass (read_to fs rest) = read_to fs (map cut rest)
cut_pass (stopped_by k n) = stopped_by k n

pass-cut : (ls : List (List ℕ)) (fs : List Form) (n : ℕ) → first_pass fs n (map cut ls) ≡ cut_pass (first_pass fs n ls)
unfolding first_pass cut_pass by_line
pass-cut [] fs n = refl
pass-cut (l ∷ ls) fs n =
    by-line fs n (cut l) (map cut ls) ∙ ap (by_line fs n (map cut ls)) (line-cut l) ∙ pick (λ f. pass-cut ls (f ∷ fs) (suc n)) (line_of l) ∙ sym (ap cut_pass (by-line fs n l ls))
  where
    taken : (f : Form) → first_pass (f ∷ fs) (suc n) (map cut ls) ≡ cut_pass (first_pass (f ∷ fs) (suc n) ls) → (b : Bool)
        → elim b [ true ↦ first_pass (f ∷ fs) (suc n) (map cut ls) | false ↦ stopped_by (form_refusal fs f) n ]
        ≡ cut_pass (elim b [ true ↦ first_pass (f ∷ fs) (suc n) ls | false ↦ stopped_by (form_refusal fs f) n ])
    taken f ih true = ih
    taken f ih false = refl

    pick : ((f : Form) → first_pass (f ∷ fs) (suc n) (map cut ls) ≡ cut_pass (first_pass (f ∷ fs) (suc n) ls)) → (x : Line)
        → by_line fs n (map cut ls) x ≡ cut_pass (by_line fs n ls x)
    pick ih last_line = refl
    pick ih bad_line = refl
    pick ih (form_line f) = taken f (ih f) (eqb (form_refusal fs f) 0)

second-cut : (x : FirstPass) → replies_on (second_pass (cut_pass x)) ≡ replies_on (second_pass x)
unfolding second_pass cut_pass replies_on opened_by
second-cut (stopped_by k n) = refl
second-cut (read_to fs rest) = pick (eqb (missing_at fs fs) 0)
  where
    pick : (b : Bool) → replies_on (cond b (opens fs (map cut rest)) (refused_at 5 (missing_at fs fs))) ≡ replies_on (cond b (opens fs rest) (refused_at 5 (missing_at fs fs)))
    pick true = let w = opened_by (opens fs rest) in ap (saying w.reply) (answers-cut w.tables w.processes rest)
    pick false = refl

pub replies-cut : (ls : List (List ℕ)) → replies_on (opening_of (map cut ls)) ≡ replies_on (opening_of ls)
unfolding opening_of
replies-cut ls = ap (λ x. replies_on (second_pass x)) (pass-cut ls [] 1) ∙ second-cut (first_pass [] 1 ls)
