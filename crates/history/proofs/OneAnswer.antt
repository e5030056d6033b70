-- Landing 108: `answer v 1` is what `reply v` was, `answer v 0` what `refuse v` was, on every state, on all words, in the history.
-- The two calls' own definitions stand here alone, as they were.
use Prim.Native.Nat.{ℕ}
use mathlib.Core.Bool.{Bool, true, false, not, ◌&&◌, ◌||◌}
use mathlib.Core.List.{List, [], ◌∷◌}
use mathlib.Core.Path.{◌≡◌, refl, ap, ◌∙◌}
use native.Mathlib.Omega.{arith}
use lib.Dec.{eqb}
use Rattle.std.specs.Prelude.{if◌then◌else◌}
use Rattle.rows.specs.Lists.{any, some, all, between, bytes}
use Rattle.rows.specs.Codes.{is_server}
use Rattle.rows.specs.Tables.{State, row_of, is_listed}
use Rattle.rows.specs.Sound.{is_fetched}
use Rattle.rows.specs.Layout.{state_of, sound_words}
use Rattle.rows.proofs.Bools.{or-false}
use Rattle.closing.specs.Closing.{close_request}
use Rattle.calls.specs.declared.Call.{Call}
use Rattle.calls.specs.Rules.{Out, Test, ◌when◌, lowest, judge, not_held, has_open, asked_of}
use Rattle.calls.specs.Calls.{lent_ends, is_away, refusals_answer, refusals, done, effect, perform, caller_of}
use Rattle.text.specs.declared.Reading.TheVariants.{Asks, Refused}
use Rattle.text.specs.Patterns.{is_letter, word_from, spelt, word_of}
use Rattle.text.specs.CallLines.{is_process, is_number, simple, reading_of}
use Rattle.text.specs.Answers.{no_text}
use Rattle.text.specs.ReadBack.{simple_text, call_text, InRange}
use Rattle.text.specs.Entry.{Replied, reply_of, caller_unlisted, answered, call_on, call_entry}
use Rattle.text.proofs.CallsBack.{call-read, named}
use Rattle.history.specs.History.{History}
use Rattle.history.specs.Notes.{note_end, loans_settled}
use Rattle.history.specs.Reading.{note_call, note_reading}

-- ---- the two calls as they were
reply_tests : State → ℕ → ℕ → List Test
reply_tests st p e =
    let v = asked_of st e in
    7 when not_held st p e
    ∷ 8 when not (is_server (row_of st.rows e).kind)
    ∷ 10 when any (λ x. has_open st (row_of st.rows x).object) (lent_ends st v)
    ∷ 11 when (eqb v.number 0 || not (is_fetched v))
    ∷ 14 when any (is_away st p v) (lent_ends st v)
    ∷ []

refuse_tests : State → ℕ → ℕ → List Test
refuse_tests st p e =
    7 when not_held st p e
    ∷ 8 when not (is_server (row_of st.rows e).kind)
    ∷ 11 when eqb (asked_of st e).number 0
    ∷ []

-- the same effect of both
reply : State → ℕ → ℕ → Out
reply st p e = judge st (reply_tests st p e) (done (close_request (asked_of st e).number st))

refuse : State → ℕ → ℕ → Out
refuse st p e = judge st (refuse_tests st p e) (done (close_request (asked_of st e).number st))

-- on the lent words, where the line was read: 1, then 5 for a caller that is not listed, then the call
entry_of : List ℕ → List ℕ → ℕ → (State → Out) → Replied
entry_of t ps p call =
    if sound_words t ps
    then reply_of (let st = state_of t ps in judge st (5 when (some p && not (is_listed st.processes p)) ∷ []) (call st))
    else record { reply = no_text (1 ∷ []); tables = t; processes = ps }

-- ---- the theorem
pub record OneAnswer : Type 0 where
  -- on every state
  served : (st : State) (p v : ℕ) → perform st (Call.Answer p v true) ≡ reply st p v
  declined : (st : State) (p v : ℕ) → perform st (Call.Answer p v false) ≡ refuse st p v
  -- on all words: the line `(p answer v 1)`, the line `(p answer v 0)`
  served-line : (t ps : List ℕ) (p v : ℕ) → is_process p && is_number v ≡ true
      → call_entry t ps (call_text (Call.Answer p v true)) ≡ entry_of t ps p (λ st. reply st p v)
  declined-line : (t ps : List ℕ) (p v : ℕ) → is_process p && is_number v ≡ true
      → call_entry t ps (call_text (Call.Answer p v false)) ≡ entry_of t ps p (λ st. refuse st p v)
  -- in the history: the request open on port v - 1 is closed
  noted : (p v n : ℕ) (b : Bool) (h : History) → note_reading (Asks (Call.Answer p v b)) n h ≡ loans_settled (note_end v h)
  -- the old words are bad forms
  no-reply : (p v : ℕ) → is_process p && is_number v ≡ true → reading_of (simple_text p "reply" v) ≡ Refused 2
  no-refuse : (p v : ℕ) → is_process p && is_number v ≡ true → reading_of (simple_text p "refuse" v) ≡ Refused 2

-- ---- its proof
as-reply : (st : State) (p v : ℕ) → perform st (Call.Answer p v true) ≡ reply st p v
unfolding perform refusals refusals_answer effect reply reply_tests
as-reply st p v = refl

as-refuse : (st : State) (p v : ℕ) → perform st (Call.Answer p v false) ≡ refuse st p v
unfolding perform refusals refusals_answer effect judge lowest refuse refuse_tests
as-refuse st p v = rw (or-false (eqb (asked_of st v).number 0)) refl

module _ (t ps : List ℕ) (p v : ℕ) (b : Bool) (h : is_process p && is_number v ≡ true) where
  as_line : call_entry t ps (call_text (Call.Answer p v b)) ≡ entry_of t ps p (λ st. perform st (Call.Answer p v b))
  unfolding call_entry call_on answered caller_unlisted caller_of InRange entry_of
  as_line = rw (call-read (Call.Answer p v b) h) refl

as-noted : (p v n : ℕ) (b : Bool) (h : History) → note_reading (Asks (Call.Answer p v b)) n h ≡ loans_settled (note_end v h)
unfolding note_reading note_call
as-noted p v n b h = refl

module _ (p v : ℕ) (h : is_process p && is_number v ≡ true) where
  bad-reply : reading_of (simple_text p "reply" v) ≡ Refused 2
  unfolding simple_text simple bytes word_of word_from spelt all is_letter between
  bad-reply = named p v h 114 (101 ∷ 112 ∷ 108 ∷ 121 ∷ []) refl refl (omega arith) (Refused 2) refl

  bad-refuse : reading_of (simple_text p "refuse" v) ≡ Refused 2
  unfolding simple_text simple bytes word_of word_from spelt all is_letter between
  bad-refuse = named p v h 114 (101 ∷ 102 ∷ 117 ∷ 115 ∷ 101 ∷ []) refl refl (omega arith) (Refused 2) refl

pub one_answer : OneAnswer
one_answer =
    record {
      served = as-reply;
      declined = as-refuse;
      served-line = λ t ps p v h. as_line t ps p v true h ∙ ap (entry_of t ps p) (λ i st. as-reply st p v i);
      declined-line = λ t ps p v h. as_line t ps p v false h ∙ ap (entry_of t ps p) (λ i st. as-refuse st p v i);
      noted = as-noted;
      no-reply = bad-reply;
      no-refuse = bad-refuse;
    }
