-- A line on a state: it is refused and leaves the state, or a call that is allowed has its effect and the answer gives its first value.
use Prim.Native.Nat.{ℕ}
use native.Mathlib.Omega.{arith}
use mathlib.Core.Bool.{Bool, true, false, not}
use mathlib.Core.List.{List, [], ◌∷◌}
use mathlib.Core.Path.{◌≡◌, refl, sym, ap, ◌∙◌, subst}
use lib.Dec.{eqb}
use borrow.Author.Tests.{eqb-true, eqb-false}
use Rattle.rows.specs.Lists.{all}
use Rattle.rows.specs.Tables.{State, is_listed}
use Rattle.tables.proofs.Sound.{Sound}
use Rattle.calls.specs.declared.Call.{Call}
use Rattle.calls.specs.Answers.{refusal_of, values_of}
use Rattle.calls.specs.Rules.{Out, ◌when◌, refused}
use Rattle.calls.specs.Calls.{effect}
use Rattle.kept.proofs.Judged.{numbered, judged}
use Rattle.text.specs.declared.Reading.{Reading}
use Rattle.text.specs.declared.Reading.TheVariants.{Asks, Crowded, Refused as BadLine}
use Rattle.text.specs.CallLines.{reading_of}
use Rattle.text.specs.Answers.{printed}
use Rattle.text.specs.Entry.{answered, call_on}
use Rattle.text.proofs.Readings.{reading-refused}
use Rattle.history.specs.Reading.{accepts}
use Rattle.history.proofs.Inv.{first_value}
use Rattle.history.proofs.Spoken.{call-spoken}
use Rattle.history.proofs.Answered.{Gives, read-accepted, read-refused}
use Rattle.history.proofs.Allowed.{Allowed}
use Rattle.security.proofs.Sessions.{refusal-not-zero, Taken, line_taken}

pub data Heard (st : State) (line : List ℕ) : Type 0 where
  refuses : accepts (printed (call_on st line).answer) ≡ false → (call_on st line).after ≡ st → Heard st line
  allows : (c : Call) → reading_of line ≡ Asks c → refusal_of (call_on st line).answer ≡ 0 → Allowed st c → call_on st line ≡ effect st c
      → Gives (printed (call_on st line).answer) (first_value (values_of (effect st c).answer)) → Heard st line

crowded-refused : (st : State) (p : ℕ) → refusal_of (answered st (Crowded p)).answer ≡ 0 → ⊥
unfolding answered refused refusal_of numbered all
crowded-refused st p =
    judged (λ o. refusal_of o.answer ≡ 0 → ⊥) st (5 when not (is_listed st.processes p) ∷ []) (refused st 6) refusal-not-zero refl
    (λ _ z. refusal-not-zero 6 refl z)

pub heard : (st : State) → Sound st → (line : List ℕ) → Heard st line
unfolding call_on answered refused refusal_of
heard st s line = pick (eqb (refusal_of o.answer) 0) refl
  where
    o : Out
    o = call_on st line

    accepted : refusal_of o.answer ≡ 0 → (r : Reading) → reading_of line ≡ r → Heard st line
    accepted z (Asks c) e =
        let k = call-spoken st s line in
        let t : Taken st c (call_on st line) = line_taken st s line c e z in
        let g = read-accepted o.answer z (k.has_value z) (k.in-range z) in
        allows c e z t.allowed t.is (subst (λ x. Gives (printed o.answer) (first_value (values_of x.answer))) t.is g)
    accepted z (Crowded p) e = absurd (crowded-refused st p (sym (ap (λ r. refusal_of (answered st r).answer) e) ∙ z))
    accepted z (BadLine k) e = absurd (refusal-not-zero k (reading-refused line k e) (sym (ap (λ r. refusal_of (answered st r).answer) e) ∙ z))

    pick : (b : Bool) → eqb (refusal_of o.answer) 0 ≡ b → Heard st line
    pick true q = accepted (eqb-true (refusal_of o.answer) 0 q) (reading_of line) refl
    pick false q =
        let n = eqb-false (refusal_of o.answer) 0 q in
        refuses (read-refused o.answer (omega arith)) ((call-spoken st s line).untouched (omega arith))
