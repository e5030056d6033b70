-- The first chain written from the oldest row on: no row, and one row after the chain of its source.
use Prim.Native.Nat.{ℕ, suc, ◌+◌, ◌-◌, ◌<◌, ◌≤◌}
use mathlib.Core.List.{List, [], ◌∷◌, ◌++◌}
use mathlib.Core.Path.{◌≡◌, refl, sym, ap, ◌∙◌}
use native.Mathlib.Nat.{not-suc-le-zero, le_of_suc-le-suc}
use native.Mathlib.Omega.{arith}
use lib.ListN.{length, get_or, set, drop, length-append}
use Rattle.rows.specs.Tables.{row_of, first_chain}
use Rattle.rows.specs.vocabulary.Sizes.{ROWS, SOURCE}
use Rattle.rows.proofs.Slots.{represented-well, row-found, row-words, source-of}
use Rattle.tables.proofs.Sound.{sound-open}
use Rattle.tables.proofs.Standing.{depth_falls}
use Rattle.tables.proofs.FirstChain.{chain-none, chain-step}
use Rattle.questions.specs.vocabulary.Questions.{WritesChain}
use Rattle.questions.proofs.Questions.{NUMBER, not_there}

-- one number more after those written
set_next : (ns before : List ℕ) (x : ℕ) → length ns < length before
    → set (ns ++ drop (length ns) before) (length ns) x ≡ (ns ++ (x ∷ [])) ++ drop (length (ns ++ (x ∷ []))) before
set_next [] [] x h = absurd (not-suc-le-zero h)
set_next [] (b ∷ bs) x h = refl
set_next (n ∷ ns) [] x h = absurd (not-suc-le-zero h)
set_next (n ∷ ns) (b ∷ bs) x h = ap (λ (l : List ℕ). n ∷ l) (set_next ns bs x (le_of_suc-le-suc h))

module _ (t : List ℕ) (s d : ℕ) (before : List ℕ) where
  -- no row, or none so near
  pub writes-none : (0 < d → 0 < s → s ≤ ROWS → ⊥) → WritesChain t s d before before 0
  unfolding WritesChain
  writes-none h st e so rep at deep = rw (chain-none st.rows e (not_there t s d h st e so rep at deep)) (refl, refl)

  -- the chain of the source, then the row in slot i
  pub writes-row : (i : ℕ) → s ≡ suc i → (mid : List ℕ) (n : ℕ) → n < length before → WritesChain t (get_or t (SOURCE + i) 0) (d - 1) before mid n
      → WritesChain t s d before (set mid n (get_or t (NUMBER + i) 0)) (n + 1)
  unfolding WritesChain
  writes-row i here mid n room h st e so rep at deep =
      let whole = sound-open st so in
      let (there, own, lt) = row-found st.rows e i (at ∙ here) in
      let (a, b, c) = depth_falls st whole.numbers whole.rows e there in
      let from = (row_of st.rows e).source in
      let ns = first_chain st.rows from in
      let (put, long) = h st from so rep (sym ((row-words rep e i (at ∙ here)).source ∙ (source-of st (represented-well rep) e i (at ∙ here)).0)) (omega arith) in
      let number : get_or t (NUMBER + i) 0 ≡ e = ap (λ (j : ℕ). get_or t j 0) (omega arith) ∙ (row-words rep e i (at ∙ here)).number ∙ own in
      let more : length (ns ++ (e ∷ [])) ≡ length ns + 1 = length-append ns (e ∷ []) in
      rw (chain-step st whole e there, put, long, number) (set_next ns before e (rw long at room), sym more)
