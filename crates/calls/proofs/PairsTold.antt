-- What is told of pairs: of one by the look-ups and the marks, of all in their order.
use Prim.Native.Nat.{ℕ, suc, ◌+◌, ◌≤◌, ◌<◌, zero-le}
use mathlib.Core.Bool.{Bool, true, false, cond}
use mathlib.Core.List.{List, [], ◌∷◌}
use mathlib.Core.Path.{◌≡◌, refl, ap, ap₂, sym, ◌∙◌}
use native.Mathlib.Nat.{le_refl}
use native.Mathlib.Numerals.{add-one}
use native.Mathlib.Omega.{arith}
use borrow.Author.Count.{below_more}
use borrow.Author.Tests.{eq-eqb, ne_eqb}
use mir.Val.{bool_byte}
use lib.ListN.{length, get_or, set}
use lib.Seq.{get_or-set_same, get_or-set_other}
use Rattle.rows.specs.Lists.{some}
use Rattle.rows.specs.Tables.{State, comes_from}
use Rattle.rows.specs.Sound.{sound}
use Rattle.rows.specs.Layout.{row_slot}
use Rattle.rows.proofs.Slots.{row-found}
use Rattle.changes.specs.vocabulary.Bits.{bit}
use Rattle.questions.specs.vocabulary.Pairs.{PAIRS, mark_at, MarksPairs}
use Rattle.calls.specs.Answers.{told_no, told_yes, not_told}
use Rattle.calls.specs.Rules.{lowest}
use Rattle.calls.specs.Calls.{refusals_comes, told, told_each}
use Rattle.calls.specs.vocabulary.Lookups.{HasRows, StandsAt}
use Rattle.calls.specs.vocabulary.Pairs.{TellsPair}

-- ---- of one
pub byte-few : (b : Bool) → bool_byte b ≤ 1
byte-few true = le_refl 1
byte-few false = zero-le

module _ (st : State) (e q : ℕ) where
  pub no-pair : e ≡ 0 → 0 ≡ told st e q
  unfolding told
  no-pair z = rw (eq-eqb e 0 z) refl

  pub not-told : (e ≡ 0 → ⊥) → 7 ≡ lowest (refusals_comes st e q) → 3 ≡ told st e q
  unfolding told not_told
  not-told some seven = rw (ne_eqb e 0 some, ← seven) refl

  pub told-by : (e ≡ 0 → ⊥) → 0 ≡ lowest (refusals_comes st e q) → (b : Bool) → b ≡ comes_from st.rows q e → 1 + bool_byte b ≡ told st e q
  unfolding told told_yes told_no
  told-by some none b is = rw (ne_eqb e 0 some, ← none, ← is) (code b)
    where
      code : (b : Bool) → 1 + bool_byte b ≡ cond b 2 1
      code true = refl
      code false = refl

-- the mark of pair k, of the row in slot i
pub mark-told : {t : List ℕ} {n : ℕ} (st : State) (qs marks : List ℕ) (e i k q : ℕ) → sound st ≡ true → HasRows t n st → MarksPairs t n qs marks
    → StandsAt st e i → k < PAIRS → get_or qs k 0 ≡ q → some q ≡ true → bit (mark_at marks (i + 1)) k ≡ comes_from st.rows q e
mark-told st qs marks e i k q so rows right at few is pos =
    let here : i + 1 ≡ row_slot st.rows e = add-one i ∙ sym at in
    let low = (row-found st.rows e i at).2 in
    ap (λ (s : ℕ). bit (mark_at marks s) k) here
    ∙ right st e so rows.0 (omega (arith, at, low, rows.1)) k few (ap some is ∙ pos)
    ∙ ap (λ (x : ℕ). comes_from st.rows x e) is

-- ---- of all
-- the first k are told
abbrev pub ToldTo : List ℕ → ℕ → ℕ → List ℕ → List ℕ → List ℕ → ℕ → List ℕ → Type 0
ToldTo t n m marks es qs k r = (j : ℕ) → j < k → TellsPair t n m marks j (get_or es j 0) (get_or qs j 0) (get_or r j 0)

pub told-turn : (t : List ℕ) (n m : ℕ) (marks es qs : List ℕ) (k : ℕ) (r : List ℕ) (x : ℕ) → k < length r → ToldTo t n m marks es qs k r
    → TellsPair t n m marks k (get_or es k 0) (get_or qs k 0) x → ToldTo t n m marks es qs (k + 1) (set r k x)
told-turn t n m marks es qs k r x room so_far here =
    below_more (λ (j : ℕ). TellsPair t n m marks j (get_or es j 0) (get_or qs j 0) (get_or (set r k x) j 0)) k
    (λ j h st ps so rows requests right is. get_or-set_other r k j x 0 (λ z. omega arith) ∙ so_far j h st ps so rows requests right is)
    (λ st ps so rows requests right is. get_or-set_same r k x 0 room ∙ here st ps so rows requests right is)

pub told-list : (st : State) (es qs r : List ℕ) → length qs ≡ length es → length r ≡ length es
    → ((k : ℕ) → k < length es → get_or r k 0 ≡ told st (get_or es k 0) (get_or qs k 0)) → r ≡ told_each st es qs
unfolding told_each
told-list st [] qs [] l k h = refl
told-list st [] qs (x ∷ r) l k h = absurd (omega arith)
told-list st (e ∷ es) [] r l k h = absurd (omega arith)
told-list st (e ∷ es) (q ∷ qs) [] l k h = absurd (omega arith)
told-list st (e ∷ es) (q ∷ qs) (x ∷ r) l k h =
    ap₂ (λ (a : ℕ) (b : List ℕ). a ∷ b) (h 0 (omega arith)) (told-list st es qs r (omega arith) (omega arith) (λ j lt. h (suc j) (omega arith)))
