-- The invariant after an answer: a refusal keeps it, and an accepted call has it of what is noted.
use Prim.Native.Nat.{ℕ}
use mathlib.Core.Bool.{true}
use mathlib.Core.List.{map}
use mathlib.Core.Path.{◌≡◌, refl, ap, ap₂, ◌∙◌}
use lib.Dec.{eqb}
use Rattle.rows.specs.Lists.{all, member}
use Rattle.rows.specs.Tables.{State}
use Rattle.calls.specs.declared.Call.{Call}
use Rattle.calls.specs.Answers.{refusal_of, values_of}
use Rattle.calls.specs.Rules.{Out, is_refusal, refused}
use Rattle.kept.proofs.Judged.{refusal-some}
use Rattle.calls.specs.Calls.{done, made}
use Rattle.history.specs.History.{History}
use Rattle.history.specs.Notes.{noted, noted_of, spoiled, standing, stands, is_closed, open_loans, loans_settled}
use Rattle.history.specs.Reading.{note_call}
use Rattle.history.proofs.Fit.{Fit}
use Rattle.history.proofs.Inv.{Inv, view, of_request, through_now, first_value, note_answer}

-- ---- Fit looks at the text, the rows, the requests and what was dropped
pub fit_same : (h h' : History) → h'.text ≡ h.text → h'.rows ≡ h.rows → h'.requests ≡ h.requests → all (λ n. eqb (noted_of h.rows n).port 0) h'.dropped ≡ true → Fit h → Fit h'
fit_same h h' t r v kept f =
    record {
      rows-rise = rw r f.rows-rise;
      requests-rise = rw v f.requests-rise;
      sources-older = rw r f.sources-older;
      rows-rooted = rw (t, r) f.rows-rooted;
      rows-bear = rw (v, r) f.rows-bear;
      rows_end = rw r f.rows_end;
      ports-noted = rw (r, v) f.ports-noted;
      ends-kept = ap (λ rs. all (λ n. eqb (noted_of rs n).port 0) h'.dropped) r ∙ kept;
      text-noted = ap₂ (λ rs ns. all (λ n. member n (noted rs)) ns) r t ∙ f.text-noted;
    }

-- ---- neither Fit nor Inv looks at the ends on loan
pub settled-inv : (h : History) (st : State) → Inv h st → Inv (loans_settled h) st
unfolding loans_settled standing spoiled open_loans is_closed stands through_now
settled-inv h st i =
    record {
      fit = fit_same h (loans_settled h) refl refl refl i.fit.ends-kept i.fit;
      rows = i.rows;
      requests = i.requests;
      through = i.through;
      rows-below = i.rows-below;
      requests-below = i.requests-below;
      dropped-below = i.dropped-below;
      ports-below = i.ports-below;
      closed-below = i.closed-below;
      went-below = i.went-below;
    }

-- nor at what the view does not see of the tables
pub seen-inv : (h : History) (st st' : State) → map view st'.rows ≡ map view st.rows → map of_request st'.requests ≡ map of_request st.requests
    → st'.processes ≡ st.processes → st'.next ≡ st.next
    → Inv h st → Inv h st'
seen-inv h st st' r v p n i =
    record {
      fit = i.fit;
      rows = r ∙ i.rows;
      requests = v ∙ i.requests;
      through = rw p i.through;
      rows-below = rw n i.rows-below;
      requests-below = rw n i.requests-below;
      dropped-below = rw n i.dropped-below;
      ports-below = rw n i.ports-below;
      closed-below = rw n i.closed-below;
      went-below = rw n i.went-below;
    }

-- ---- the invariant after a call's answer
pub record Keeps (h : History) (c : Call) (o : Out) : Type 0 where
  pub inv : Inv (note_answer h c o.answer) o.after

-- a refusal keeps it
pub refused-keeps : (h : History) (c : Call) (st : State) → Inv h st → (k : ℕ) → is_refusal k ≡ true → Keeps h c (refused st k)
unfolding note_answer refused refusal_of
refused-keeps h c st i k r = record { inv = rw (refusal-some k r) i }

-- an accepted call
pub taken : {h : History} {c : Call} (o : Out) (n : ℕ) → refusal_of o.answer ≡ 0 → first_value (values_of o.answer) ≡ n → Inv (note_call c n h) o.after → Keeps h c o
unfolding note_answer
taken {h} {c} o n z e i = record { inv = rw (z, e) (settled-inv (note_call c n h) o.after i) }

pub taken-done : {h : History} {c : Call} (st : State) → Inv (note_call c 0 h) st → Keeps h c (done st)
unfolding done refusal_of values_of first_value
taken-done st i = taken _ 0 refl refl i

pub taken_made : {h : History} {c : Call} (n : ℕ) (st : State) → Inv (note_call c n h) st → Keeps h c (made n st)
unfolding made refusal_of values_of first_value
taken_made n st i = taken _ n refl refl i
