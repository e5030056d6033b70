-- `replies::put_answer` meets its contract: case by case of an answer.
use Prim.Native.Nat.{ℕ}
use mathlib.Core.List.{◌∷◌, []}
use mathlib.Core.Path.{ap}
use Rattle.calls.specs.Answers.{num, refusal_of, values_of}
use Rattle.text.specs.Answers.{printed, ok_text}
use Rattle.text.proofs.ReplyLaws.{told-number, puts-as}
use Rattle.text.proofs.replies.put_answer.Goals as goal

pub returns-in-Done : goal.returns-in-Done
unfolding printed refusal_of values_of
returns-in-Done c = rw c.in-Done.is c.put_accepted.ensures

pub returns-in-Made : goal.returns-in-Made
unfolding printed refusal_of values_of
returns-in-Made c = rw c.in-Made.is c.put_accepted-in-Made.ensures

pub returns-in-Fetched : goal.returns-in-Fetched
returns-in-Fetched c = rw c.in-Fetched.is c.put_fetched.ensures

pub returns-in-Told : goal.returns-in-Told
unfolding printed refusal_of values_of
returns-in-Told c =
    rw c.in-Told.is (puts-as _ _ (ap (λ (n : ℕ). ok_text (num n ∷ [])) (told-number c.in-Told.t)) c.put_accepted-in-Told.ensures)

pub returns-in-Chained : goal.returns-in-Chained
returns-in-Chained c = rw c.in-Chained.is c.put_chained.ensures

pub returns-in-ToldAll : goal.returns-in-ToldAll
returns-in-ToldAll c = rw c.in-ToldAll.is c.put_told_all.ensures

pub returns-in-Refused : goal.returns-in-Refused
unfolding printed refusal_of values_of
returns-in-Refused c = rw c.in-Refused.is c.put_refusal.ensures
