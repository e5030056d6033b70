-- The ends on loan after an answer: a refusal changes none, and an accepted call has them loans_settled.
use Prim.Native.Nat.{ℕ}
use mathlib.Core.Bool.{true}
use mathlib.Core.Path.{◌≡◌, refl, sym, ap, ◌∙◌}
use Rattle.rows.specs.Tables.{State}
use Rattle.calls.specs.declared.Call.{Call}
use Rattle.calls.specs.Answers.{refusal_of, values_of}
use Rattle.calls.specs.Rules.{Out, is_refusal, refused}
use Rattle.kept.proofs.Judged.{refusal-some}
use Rattle.calls.specs.Calls.{done, made}
use Rattle.history.specs.History.{History}
use Rattle.history.specs.Notes.{spoiled, standing, stands, is_closed, open_loans, loans_left, loans_settled}
use Rattle.history.specs.Reading.{note_call}
use Rattle.history.proofs.Inv.{Inv, Lends, loans_in, through_now, first_value, note_answer}
use Rattle.history.proofs.Keeps.{fit_same, Keeps}
use Rattle.history.proofs.Loans.{nothing-settles}

pub record LendsAfter (h : History) (c : Call) (o : Out) : Type 0 where
  pub after : Lends (note_answer h c o.answer) o.after

-- a refusal keeps them
pub refused-lends : (h : History) (c : Call) (st : State) → Lends h st → (k : ℕ) → is_refusal k ≡ true → LendsAfter h c (refused st k)
unfolding note_answer refused refusal_of
refused-lends h c st l k r = record { after = rw (refusal-some k r) l }

-- the invariant looks at no end on loan
unsettled-inv : (h : History) (st : State) → Inv (loans_settled h) st → Inv h st
unfolding loans_settled standing spoiled open_loans is_closed stands through_now
unsettled-inv h st i =
    record {
      fit = fit_same (loans_settled h) h refl refl refl i.fit.ends-kept i.fit;
      rows = i.rows;
      requests = i.requests;
      through = i.through;
      rows-below = i.rows-below;
      requests-below = i.requests-below;
      dropped-below = i.dropped-below;
      ports-below = i.ports-below;
      closed-below = i.closed-below;
      went-below = i.went-below;
    }

-- what is left on loan is what the tables list
abbrev pub Settles : History → State → Type 0
Settles h st = loans_in st.rows st.requests ≡ loans_left h h.loans

-- an accepted call
pub taken : {h : History} {c : Call} (o : Out) (n : ℕ) → refusal_of o.answer ≡ 0 → first_value (values_of o.answer) ≡ n → Keeps h c o
    → (Inv (note_call c n h) o.after → Settles (note_call c n h) o.after) → LendsAfter h c o
unfolding note_answer
taken {h} {c} o n z e i f = record { after = rw (z, e) (record { lends = unfold loans_settled in f (unsettled-inv (note_call c n h) o.after (rw (z, e) at i.inv)) }) }

pub taken-done : {h : History} {c : Call} (st : State) → Keeps h c (done st) → (Inv (note_call c 0 h) st → Settles (note_call c 0 h) st) → LendsAfter h c (done st)
unfolding done refusal_of values_of first_value
taken-done st i f = taken _ 0 refl refl i f

pub taken_made : {h : History} {c : Call} (n : ℕ) (st : State) → Keeps h c (made n st) → (Inv (note_call c n h) st → Settles (note_call c n h) st) → LendsAfter h c (made n st)
unfolding made refusal_of values_of first_value
taken_made n st i f = taken _ n refl refl i f

-- nothing settles where what is noted on loan is what the tables list
pub calm : (h : History) (st : State) → Inv h st → loans_in st.rows st.requests ≡ h.loans → Settles h st
calm h st i e = sym (nothing-settles h st i) ∙ ap (loans_left h) e
