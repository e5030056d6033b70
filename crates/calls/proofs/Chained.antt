-- The answer of chain: what is written over zeros is the chain, with 0 for none after it.
use Prim.Native.Nat.{ℕ, zero, suc, ◌+◌}
use mathlib.Core.List.{List, [], ◌∷◌, ◌++◌, append-nil}
use mathlib.Core.Path.{◌≡◌, refl, sym, ap, ◌∙◌}
use native.Mathlib.Numerals.{add-one}
use lib.ListN.{length, get_or, drop, replicate}
use Rattle.rows.specs.Tables.{first_chain}
use Rattle.rows.proofs.Slots.{row-found}
use Rattle.tables.proofs.Sound.{sound-open}
use Rattle.rows.proofs.Lists.{same-everywhere}
use Rattle.tables.proofs.Standing.{depth_falls}
use Rattle.questions.specs.vocabulary.Questions.{WritesChain}
use Rattle.calls.specs.declared.Four.{Four}
use Rattle.calls.specs.declared.Answer.TheVariants.{Chained}
use Rattle.calls.specs.Calls.{four_from, chained_answer}
use Rattle.calls.specs.vocabulary.Performs.{ChainedAt}

-- where only zeros stand after numbers, 0 is read
over_zeros : (ns : List ℕ) (m k : ℕ) → ◌≡◌ {A = ℕ} (get_or (ns ++ drop (length ns) (replicate m 0)) k 0) (get_or ns k 0)
over_zeros [] m k = same-everywhere 0 m k
over_zeros (n ∷ ns) zero k = ap (λ (l : List ℕ). get_or l k 0) (append-nil (n ∷ ns))
over_zeros (n ∷ ns) (suc m) zero = refl
over_zeros (n ∷ ns) (suc m) (suc k) = over_zeros ns m k

four-over-zeros : (ns : List ℕ) (m i : ℕ) → four_from (ns ++ drop (length ns) (replicate m 0)) i ≡ four_from ns i
unfolding four_from
four-over-zeros ns m i j =
    record {
      first = over_zeros ns m i j;
      second = over_zeros ns m (i + 1) j;
      third = over_zeros ns m (i + 2) j;
      fourth = over_zeros ns m (i + 3) j;
    }

chained : (ns : List ℕ) (m : ℕ) (a b c : Four) (w : List ℕ) → w ≡ ns ++ drop (length ns) (replicate m 0) → a ≡ four_from w 0 → b ≡ four_from w 4 → c ≡ four_from w 8
    → Chained a b c ≡ chained_answer ns
unfolding chained_answer
chained ns m a b c w e p q r = rw (p, q, r, e, four-over-zeros ns m 0, four-over-zeros ns m 4, four-over-zeros ns m 8) refl

-- the chain of a row that stands in slot i, twelve rows at most, written over zeros
pub chained-at : (t : List ℕ) (i n : ℕ) (w : List ℕ) → WritesChain t (i + 1) 12 (replicate 12 0) w n
    → (a b c : Four) → a ≡ four_from w 0 → b ≡ four_from w 4 → c ≡ four_from w 8 → ChainedAt t i (Chained a b c)
unfolding WritesChain
chained-at t i n w h a b c p q r st e so rep at =
    let whole = sound-open st so in
    let deep = (depth_falls st whole.numbers whole.rows e (row-found st.rows e i at).0).2 in
    chained (first_chain st.rows e) 12 a b c w (h st e so rep (at ∙ sym (add-one i)) deep).0 p q r
