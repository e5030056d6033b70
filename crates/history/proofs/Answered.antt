-- What the history reads of a printed answer: accepted with its first value, or refused.
use Prim.Native.Nat.{ℕ, ◌<◌, ◌≤◌}
use native.Mathlib.Omega.{arith}
use mathlib.Core.Bool.{Bool, true, false, cond}
use mathlib.Core.List.{List, [], ◌∷◌}
use mathlib.Core.Path.{◌≡◌, refl}
use lib.ListN.{length}
use lib.Dec.{eqb}
use borrow.Author.Tests.{eq-eqb, ne_eqb, eqb-true, eqb-false}
use Rattle.rows.specs.Limits.{greatest_number}
use Rattle.calls.specs.declared.Answer.{Answer}
use Rattle.calls.specs.declared.Call.{Call}
use Rattle.calls.specs.Answers.{Value, num, dash, refusal_of, values_of}
use Rattle.calls.specs.Rules.{Out}
use Rattle.rows.specs.Tables.{State}
use Rattle.text.specs.declared.Reading.TheVariants.{Asks, Crowded, Refused as BadLine}
use Rattle.text.specs.CallLines.{reading_of}
use Rattle.text.specs.Answers.{ok_text, no_text, printed}
use Rattle.text.proofs.Answers.{read_ok, read_number, read-dash, read_no as no_read}
use Rattle.history.specs.History.{History}
use Rattle.history.specs.Notes.{loans_settled}
use Rattle.history.specs.Reading.{accepts, number_answered, note_call, note_reading, note_line}
use Rattle.history.proofs.Inv.{first_value, note_answer}
use Rattle.history.proofs.Spoken.{Spoken}

same-both : (b : Bool) (h : History) → cond b h h ≡ h
same-both true h = refl
same-both false h = refl

-- what is read of a reply that has a first value, n
pub record Gives (reply : List ℕ) (n : ℕ) : Type 0 where
  pub good : accepts reply ≡ true
  pub value : number_answered reply ≡ n

-- of the answers with refusal 0, `Refused 0` alone has no value; no call gives it (Spoken)
pub read-accepted : (a : Answer) → refusal_of a ≡ 0 → 0 < length (values_of a) → first_value (values_of a) ≤ greatest_number → Gives (printed a) (first_value (values_of a))
unfolding accepts number_answered printed first_value
read-accepted a e l h = rw (eq-eqb (refusal_of a) 0 e) (pick (values_of a) l h)
  where
    pick : (vs : List Value) → 0 < length vs → first_value vs ≤ greatest_number → Gives (ok_text vs) (first_value vs)
    pick [] l h = absurd (let z : 0 < 0 = l in omega arith)
    pick (num n ∷ vs) l h = record { good = read_ok (num n) vs; value = read_number n vs h }
    pick (dash ∷ vs) l h = record { good = read_ok dash vs; value = read-dash vs }

pub read_no : (ns : List ℕ) → accepts (no_text ns) ≡ false
unfolding accepts
read_no ns = no_read ns

pub read-refused : (a : Answer) → 0 < refusal_of a → accepts (printed a) ≡ false
unfolding printed
read-refused a h = rw (ne_eqb (refusal_of a) 0 (omega arith)) (read_no (refusal_of a ∷ []))

-- the answer to an accepted opening
pub read-ok0 : accepts (ok_text (num 0 ∷ [])) ≡ true
unfolding accepts
read-ok0 = read_ok (num 0) []

-- ---- what is noted of a line and its printed answer
pub note-asked : (h : History) (line : List ℕ) (c : Call) (st : State) (o : Out) → reading_of line ≡ Asks c → Spoken st o → note_line h line (printed o.answer) ≡ note_answer h c o.answer
unfolding note_line note_answer note_reading
note-asked h line c st o e s = pick (eqb (refusal_of o.answer) 0) refl
  where
    a : Answer
    a = o.answer

    pick : (b : Bool) → eqb (refusal_of a) 0 ≡ b
        → cond (accepts (printed a)) (note_reading (reading_of line) (number_answered (printed a)) h) h ≡ cond b (loans_settled (note_call c (first_value (values_of a)) h)) h
    pick true q =
        let z = eqb-true (refusal_of a) 0 q in
        let g = read-accepted a z (s.has_value z) (s.in-range z) in
        rw (g.good, g.value, e) refl
    pick false q = rw (read-refused a (let n = eqb-false (refusal_of a) 0 q in omega arith)) refl

pub note-crowded : (h : History) (line reply : List ℕ) (p : ℕ) → reading_of line ≡ Crowded p → note_line h line reply ≡ h
unfolding note_line note_reading
note-crowded h line reply p e = rw e (same-both (accepts reply) h)

pub note-refused : (h : History) (line reply : List ℕ) (k : ℕ) → reading_of line ≡ BadLine k → note_line h line reply ≡ h
unfolding note_line note_reading
note-refused h line reply k e = rw e (same-both (accepts reply) h)
