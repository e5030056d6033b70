-- A refused call changes nothing: no effect answers a refusal, and words that represent one state are the same words. Both runs after a call.
use Prim.Native.Nat.{ℕ}
use mathlib.Core.Bool.{Bool, true, false, cond}
use mathlib.Core.List.{List}
use mathlib.Core.Path.{◌≡◌, refl, ap, sym, subst, ◌∙◌}
use native.Mathlib.Omega.{arith}
use lib.Dec.{eqb}
use Rattle.rows.specs.Tables.{State}
use Rattle.rows.specs.Layout.{records_in, records_of}
use Rattle.rows.specs.vocabulary.Represents.{Represents}
use Rattle.rows.proofs.LayoutRequests.{records-words}
use Rattle.rows.specs.vocabulary.Sizes.{IsTables, IsRecords}
use Rattle.calls.specs.declared.Answer.TheVariants.{Refused}
use Rattle.calls.specs.declared.Answer.{Answer}
use Rattle.calls.specs.declared.Call.{Call}
use Rattle.calls.specs.declared.Call.TheVariants.{Go, Hold, Register, Drop, Port, Close, Ask, Fetch, Revoke, Comes, Chain, ComesAll}
use Rattle.calls.specs.Rules.{Out, lowest, refused, judge}
use Rattle.calls.specs.Calls.{refusals, done, made, fetched_answer, chained_answer, effect, perform}
use Rattle.calls.specs.vocabulary.Performs.{Agrees, RunsAfter, Performs, StaysIfRefused}

-- what is done answers no refusal
effect-accepts : (st : State) (c : Call) (k : ℕ) → (effect st c).answer ≡ Refused k → ⊥
unfolding effect done made fetched_answer chained_answer
effect-accepts st (Go p e) k h = let z : ◌≡◌ {A = ℕ} 0 1 = cc in omega arith
effect-accepts st (Hold p s) k h = let z : ◌≡◌ {A = ℕ} 0 1 = cc in omega arith
effect-accepts st (Register p e) k h = let z : ◌≡◌ {A = ℕ} 0 1 = cc in omega arith
effect-accepts st (Drop p e) k h = let z : ◌≡◌ {A = ℕ} 0 1 = cc in omega arith
effect-accepts st (Port p e) k h = let z : ◌≡◌ {A = ℕ} 0 1 = cc in omega arith
effect-accepts st (Close p c) k h = let z : ◌≡◌ {A = ℕ} 0 1 = cc in omega arith
effect-accepts st (Ask p c is) k h = let z : ◌≡◌ {A = ℕ} 0 1 = cc in omega arith
effect-accepts st (Fetch p e) k h = let z : ◌≡◌ {A = ℕ} 0 1 = cc in omega arith
effect-accepts st (Call.Answer p e served) k h = let z : ◌≡◌ {A = ℕ} 0 1 = cc in omega arith
effect-accepts st (Revoke p q) k h = let z : ◌≡◌ {A = ℕ} 0 1 = cc in omega arith
effect-accepts st (Comes e q) k h = let z : ◌≡◌ {A = ℕ} 0 1 = cc in omega arith
effect-accepts st (Chain e) k h = let z : ◌≡◌ {A = ℕ} 0 1 = cc in omega arith
effect-accepts st (ComesAll es qs) k h = let z : ◌≡◌ {A = ℕ} 0 1 = cc in omega arith

refused-after : (st : State) (c : Call) (k : ℕ) → (perform st c).answer ≡ Refused k → (perform st c).after ≡ st
unfolding perform judge refused
refused-after st c k h = pick (eqb (lowest (refusals st c)) 0) h
  where
    pick : (b : Bool) → (cond b (effect st c) (refused st (lowest (refusals st c)))).answer ≡ Refused k → (cond b (effect st c) (refused st (lowest (refusals st c)))).after ≡ st
    pick true h = absurd (effect-accepts st c k h)
    pick false h = refl

same-words : (t u : List ℕ) (st : State) → Represents t st → Represents u st → u ≡ t
same-words t u st a b = b.words ∙ sym a.words

module _ (t after : List ℕ) (ps left : List ℕ) (r : Answer) (long : IsRecords ps) (kept : IsTables after × IsRecords left) where
  -- a call that does what its definition says writes no word where it is refused
  pub refused-writes-nothing : (c : Call) → Performs t ps c after left r → StaysIfRefused t ps c after left r
  refused-writes-nothing c h st k sd rep same listed says =
      let a = h st sd rep same listed in
      let stays = refused-after st c k (sym a.answer ∙ says) in (
        same-words t after st rep (subst (λ (s : State). Represents after s) stays a.words),
        sym (records-words 64 left kept.1) ∙ ap records_of (a.records ∙ ap (λ (s : State). s.processes) stays ∙ same) ∙ records-words 64 ps long,
      )

  -- by the function of the call that c is
  pub carried : (c d : Call) → c ≡ d → Performs t ps d after left r
      → Performs t ps c after left r × (StaysIfRefused t ps c after left r × (IsTables after × IsRecords left))
  carried c d e h =
      let own = subst (λ (x : Call). Performs t ps x after left r) (sym e) h in
      (own, (refused-writes-nothing c own, kept))

-- records that are read as the definition's are its words
pub runs_after : (u v : List ℕ) (r : Answer) (o : Out) → IsRecords v → Agrees u (records_in v) r o → RunsAfter u v o × (r ≡ o.answer)
runs_after u v r o long a = ((a.words, sym (records-words 64 v long) ∙ ap records_of a.records), a.answer)
