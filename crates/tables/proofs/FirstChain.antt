-- The first chain of a row on sound tables: that of its first source, then the row; no longer than the row is deep; its rows stand.
use Prim.Native.Nat.{ℕ, zero, suc, ◌<◌, ◌≤◌, zero-le}
use mathlib.Core.Bool.{Bool, true, false}
use mathlib.Core.List.{List, [], ◌∷◌, ◌++◌}
use mathlib.Core.Path.{◌≡◌, refl, sym, ap, ◌∙◌}
use mathlib.Core.Logic.{inl, inr, ⊎_elim}
use native.Mathlib.Nat.{le_refl}
use native.Mathlib.Omega.{arith}
use borrow.Author.Tests.{eqb-true, eq-eqb, ne_eqb}
use lib.Dec.{eqb}
use lib.ListN.{length, length-append}
use Rattle.rows.specs.declared.Row.{Row}
use Rattle.rows.specs.Lists.{all, rises, member, first_with}
use Rattle.rows.specs.Tables.{State, row_of, numbers, first_chain}
use Rattle.rows.specs.Sound.{rows_rise}
use Rattle.rows.proofs.Bools.{clash, and_i, true-or-false, or-fl, or-fr, eqb-sym-f}
use Rattle.rows.proofs.Lists.{all_append}
use Rattle.rows.proofs.Keyed.{rises-rest, rises-older}
use Rattle.tables.proofs.Sound.{Sound}
use Rattle.tables.proofs.Standing.{source-lower, depth_falls}

-- what the definition says of the newest row, where that is e or not
abbrev chosen : Row → List Row → ℕ → Bool → List ℕ
chosen r rs e b = elim b as (λ x. List ℕ) [ true ↦ first_chain rs r.source ++ (e ∷ []) | false ↦ first_chain rs e ]

-- another row is passed; a row follows the first chain of its first source
chain-pass : (r : Row) (rs : List Row) (e : ℕ) → (r.number ≡ e → ⊥) → first_chain (r ∷ rs) e ≡ first_chain rs e
unfolding first_chain
chain-pass r rs e h = ap (chosen r rs e) (ne_eqb r.number e h)

chain-here : (r : Row) (rs : List Row) (e : ℕ) → r.number ≡ e → first_chain (r ∷ rs) e ≡ first_chain rs r.source ++ (e ∷ [])
unfolding first_chain
chain-here r rs e h = ap (chosen r rs e) (eq-eqb r.number e h)

-- no row, no chain
pub chain-none : (rs : List Row) (e : ℕ) → member e (numbers rs) ≡ false → first_chain rs e ≡ []
unfolding first_chain member numbers
chain-none [] e h = refl
chain-none (r ∷ rs) e h =
    chain-pass r rs e (λ q. clash (eq-eqb e r.number (sym q)) (or-fl (eqb e r.number) (member e (numbers rs)) h))
    ∙ chain-none rs e (or-fr (eqb e r.number) (member e (numbers rs)) h)

-- the rows after a source are no part of its chain
step-here : (r : Row) (rs : List Row) (e : ℕ) → r.number ≡ e → (row_of (r ∷ rs) e).source < e
    → first_chain (r ∷ rs) e ≡ first_chain (r ∷ rs) (row_of (r ∷ rs) e).source ++ (e ∷ [])
unfolding row_of first_with
step-here r rs e q h =
    let own : row_of (r ∷ rs) e ≡ r = rw (eq-eqb r.number e q) refl in
    let less : r.source < e = rw own at h in
    rw own (chain-here r rs e q ∙ ap (λ (ns : List ℕ). ns ++ (e ∷ [])) (sym (chain-pass r rs r.source (λ z. omega arith))))

step-there : (r : Row) (rs : List Row) (e : ℕ) → (r.number ≡ e → ⊥) → e < r.number → (row_of (r ∷ rs) e).source < e
    → ((row_of rs e).source < e → first_chain rs e ≡ first_chain rs (row_of rs e).source ++ (e ∷ []))
    → first_chain (r ∷ rs) e ≡ first_chain (r ∷ rs) (row_of (r ∷ rs) e).source ++ (e ∷ [])
unfolding row_of first_with
step-there r rs e q older h more =
    let other : row_of (r ∷ rs) e ≡ row_of rs e = rw (ne_eqb r.number e q) refl in
    let less : (row_of rs e).source < e = rw other at h in
    rw other
    (chain-pass r rs e q ∙ more less
    ∙ ap (λ (ns : List ℕ). ns ++ (e ∷ [])) (sym (chain-pass r rs (row_of rs e).source (λ z. omega arith))))

chain-rows : (rs : List Row) (e : ℕ) → rises (λ r. r.number) rs ≡ true → member e (numbers rs) ≡ true → (row_of rs e).source < e
    → first_chain rs e ≡ first_chain rs (row_of rs e).source ++ (e ∷ [])
unfolding member numbers
chain-rows [] e up t h = clash t refl
chain-rows (r ∷ rs) e up t h =
    elim (true-or-false (eqb r.number e)) [
      | inl q ↦ step-here r rs e (eqb-true r.number e q) h
      | inr q ↦ step-there r rs e (λ z. clash (eq-eqb r.number e z) q)
          (rises-older (λ r. r.number) r rs up e (rest q))
          h
          (chain-rows rs e (rises-rest (λ r. r.number) r rs up) (rest q))
    ]
  where
    rest : eqb r.number e ≡ false → member e (numbers rs) ≡ true
    rest q = let z : eqb e r.number ≡ false = eqb-sym-f r.number e q in rw z at t

module _ (st : State) (s : Sound st) where
  pub chain-step : (e : ℕ) → member e (numbers st.rows) ≡ true → first_chain st.rows e ≡ first_chain st.rows (row_of st.rows e).source ++ (e ∷ [])
  unfolding rows_rise
  chain-step e t = chain-rows st.rows e s.numbers.rows-rise t (source-lower st s.numbers s.rows e t)

  -- what holds where no row is, and of a row where it holds of its first source, holds of every number
  by-depth : (P : ℕ → Type 0) → ((e : ℕ) → member e (numbers st.rows) ≡ false → P e)
      → ((e : ℕ) → member e (numbers st.rows) ≡ true → P (row_of st.rows e).source → P e)
      → (d e : ℕ) → (row_of st.rows e).depth ≤ d → P e
  by-depth P none row zero e deep = ⊎_elim (λ t. let (a, b, c) = depth_falls st s.numbers s.rows e t in absurd (omega arith)) (none e) (true-or-false (member e (numbers st.rows)))
  by-depth P none row (suc d) e deep =
      let older = by-depth P none row d (row_of st.rows e).source in
      ⊎_elim (λ t. let (a, b, c) = depth_falls st s.numbers s.rows e t in row e t (older (omega arith))) (none e) (true-or-false (member e (numbers st.rows)))

  pub by-source : (P : ℕ → Type 0) → ((e : ℕ) → member e (numbers st.rows) ≡ false → P e)
      → ((e : ℕ) → member e (numbers st.rows) ≡ true → P (row_of st.rows e).source → P e)
      → (e : ℕ) → P e
  by-source P none row e = by-depth P none row (row_of st.rows e).depth e (le_refl (row_of st.rows e).depth)

  -- a chain is as long as its row is deep at most
  pub chain_length : (e : ℕ) → length (first_chain st.rows e) ≤ (row_of st.rows e).depth
  chain_length =
      by-source (λ e. length (first_chain st.rows e) ≤ (row_of st.rows e).depth)
      (λ e n. rw (chain-none st.rows e n) zero-le)
      (λ e t shorter.
      let (a, b, c) = depth_falls st s.numbers s.rows e t in
      rw (chain-step e t, length-append) (omega arith))

  -- what holds of every row holds along a chain
  pub chain-all : (f : ℕ → Bool) → ((n : ℕ) → member n (numbers st.rows) ≡ true → f n ≡ true) → (e : ℕ) → all f (first_chain st.rows e) ≡ true
  unfolding all
  chain-all f h =
      by-source (λ e. all f (first_chain st.rows e) ≡ true)
      (λ e n. rw (chain-none st.rows e n) refl)
      (λ e t older. rw (chain-step e t) (all_append f (first_chain st.rows (row_of st.rows e).source) (e ∷ []) older (and_i (f e) true (h e t) refl)))
