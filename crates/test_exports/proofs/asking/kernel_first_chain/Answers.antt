-- `asking::kernel_first_chain` meets its contract: where tables, slot and words fit, the first chain's own; else nothing changes.
use native.Mathlib.Omega.{arith}
use native.Mathlib.Numerals.{add-one}
use mathlib.Core.Path.{refl, sym, ◌∙◌}
use Rattle.rows.proofs.Slots.{row-found}
use Rattle.tables.proofs.Sound.{sound-open}
use Rattle.tables.proofs.Standing.{depth_falls}
use Rattle.questions.specs.vocabulary.Questions.{WritesChain}
use Rattle.test_exports.proofs.asking.kernel_first_chain.Goals as goal

pub returns-then-t-ne-TABLES : goal.returns-then-t-ne-TABLES
returns-then-t-ne-TABLES c = record { written = (λ fits st n so rep at. absurd (c.if-t-ne-TABLES.true fits.0)); other = (λ not. (refl, refl)) }

pub returns-then-e-ge-ROWS : goal.returns-then-e-ge-ROWS
returns-then-e-ge-ROWS c = record { written = (λ fits st n so rep at. absurd (omega (arith, c.if-e-ge-ROWS.true, fits.1))); other = (λ not. (refl, refl)) }

pub returns-then-chain-lt-LONGEST_CHAIN : goal.returns-then-chain-lt-LONGEST_CHAIN
returns-then-chain-lt-LONGEST_CHAIN c = record { written = (λ fits st n so rep at. absurd (omega (arith, c.if-chain-lt-LONGEST_CHAIN.true, fits.2))); other = (λ not. (refl, refl)) }

pub returns : goal.returns
unfolding WritesChain
returns c =
    record {
      written = (λ fits st n so rep at.
          let whole = sound-open st so in
          let deep = (depth_falls st whole.numbers whole.rows n (row-found st.rows n _ at).0).2 in
          c.first_chain.ensures.written st n so rep (at ∙ sym (add-one _)) deep);
      other = (λ not. absurd (not (c.if-t-ne-TABLES.false, c.if-e-ge-ROWS.false, c.if-chain-lt-LONGEST_CHAIN.false)));
    }
