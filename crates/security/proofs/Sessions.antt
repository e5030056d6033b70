-- Sessions: an accepted call had its effect, where no refusal applied; what an opening has and every accepted call keeps, every session has.
use Prim.Native.Nat.{ℕ}
use native.Mathlib.Omega.{arith}
use mathlib.Core.Bool.{true}
use mathlib.Core.List.{List, []}
use mathlib.Core.Path.{◌≡◌, refl, sym, ap, ◌∙◌, subst}
use lib.Dec.{leb}
use borrow.Author.Tests.{leb-true}
use Rattle.rows.specs.Tables.{State}
use Rattle.rows.proofs.Bools.{and_l}
use Rattle.tables.proofs.Sound.{Sound}
use Rattle.calls.specs.declared.Call.{Call}
use Rattle.calls.specs.Answers.{refusal_of}
use Rattle.calls.specs.Rules.{Out, is_refusal, refused}
use Rattle.calls.specs.Calls.{effect}
use Rattle.text.specs.declared.Reading.TheVariants.{Asks}
use Rattle.text.specs.CallLines.{reading_of}
use Rattle.text.specs.Opening.{Form, opens, lines_of, opening_of}
use Rattle.text.specs.Entry.{call_on, state_opened}
use Rattle.text.proofs.Opening.{opened-sound}
use Rattle.text.proofs.Readings.{reading-good}
use Rattle.history.proofs.Allowed.{Allowed, call-has}
use Rattle.history.proofs.KeptCalls.{effect-kept}
use Rattle.security.specs.Sessions.{Step, Log, logged, Session, opened, called, Later, now, after}

-- ---- one accepted call
pub record Taken (st : State) (c : Call) (o : Out) : Type 0 where
  pub allowed : Allowed st c
  pub is : o ≡ effect st c

pub refusal-not-zero : (k : ℕ) → is_refusal k ≡ true → k ≡ 0 → ⊥
refusal-not-zero k r z = let l = leb-true 2 k (and_l (leb 2 k) (leb k 18) r) in omega arith

pub line_taken : (st : State) → Sound st → (line : List ℕ) (c : Call) → reading_of line ≡ Asks c → refusal_of (call_on st line).answer ≡ 0 → Taken st c (call_on st line)
unfolding call_on refused refusal_of
line_taken st s line c e =
    rw e
    (call-has (λ o. refusal_of o.answer ≡ 0 → Taken st c o) st s (λ k r z. absurd (refusal-not-zero k r z)) c (reading-good line c e)
    (λ a _. record { allowed = a; is = refl }))

module _ (st st' : State) (c : Call) (s : Sound st) (k : Step st c st') where
  taken : Taken st c (call_on st k.line)
  taken = line_taken st s k.line c k.reads k.accepted

  pub step-allowed : Allowed st c
  step-allowed = taken.allowed

  pub step_is : (effect st c).after ≡ st'
  step_is = sym (ap (λ o. o.after) taken.is) ∙ k.leaves

-- a property of the state after it
pub step-has : (P : State → Type 0) (st st' : State) (c : Call) → Sound st → (Allowed st c → P (effect st c).after) → Step st c st' → P st'
step-has P st st' c s h k = subst P (step_is st st' c s k) (h (step-allowed st st' c s k))

-- ---- sessions
pub session-sound : (fs : List Form) (log : Log) (st : State) → Session fs log st → Sound st
session-sound fs log st (opened text rest e) = opened-sound (lines_of text) rest fs e
session-sound fs log st (called log' st' st'' c x k) =
    let s = session-sound fs log' st' x in
    step-has Sound st' st c s (effect-kept st' s c) k

-- what an opening has and every accepted call keeps, every session has
pub session-has : (P : Log → State → Type 0) (fs : List Form)
    → ((text : List ℕ) (rest : List (List ℕ)) → opening_of (lines_of text) ≡ opens fs rest → P [] (state_opened fs))
    → ((log : Log) (st : State) (c : Call) → Sound st → Allowed st c → P log st → P (logged st c log) (effect st c).after)
    → (log : Log) (st : State) → Session fs log st → P log st
session-has P fs start step log st (opened text rest e) = start text rest e
session-has P fs start step log st (called log' st' st'' c x k) =
    let s = session-sound fs log' st' x in
    let ih = session-has P fs start step log' st' x in
    step-has (P (logged st' c log')) st' st c s (λ a. step log' st' c s a ih) k

-- ---- further calls
pub later-sound : (st st' : State) → Sound st → Later st st' → Sound st'
later-sound st st' s now = s
later-sound st st' s (after st₁ st₂ c x k) =
    let s₁ = later-sound st st₁ s x in
    step-has Sound st₁ st' c s₁ (effect-kept st₁ s₁ c) k

-- what holds now and is kept by every accepted call holds ever after
pub later-has : (P : State → Type 0) → ((st st' : State) (c : Call) → Sound st → Step st c st' → P st → P st') → (st st' : State) → Sound st → Later st st' → P st → P st'
later-has P step st st' s now p = p
later-has P step st st' s (after st₁ st₂ c x k) p = step st₁ st' c (later-sound st st₁ s x) k (later-has P step st st₁ s x p)
