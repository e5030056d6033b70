-- `laid::rows_unused` meets its contract: the columns of rows stand from the first word on.
use Prim.Native.Nat.{ℕ, ◌+◌, ◌*◌}
use mathlib.Core.Path.{ap, sym, ◌∙◌}
use native.Mathlib.Nat.{zero-add}
use lib.ListN.{get_or}
use Rattle.rows.specs.vocabulary.Sizes.{ROWS}
use Rattle.soundness.proofs.Decides.{decides-as}
use Rattle.soundness.proofs.laid.rows_unused.Goals as goal

pub returns : goal.returns
returns c =
    let t = c.args.t.now in
    let first = λ (i : ℕ). ap (λ (j : ℕ). get_or t j 0) (zero-add i) in
    decides-as (λ x k i h lo hi. sym (first (k * ROWS + i)) ∙ x k i h lo hi) (λ x k i h lo hi. first (k * ROWS + i) ∙ x k i h lo hi) c.columns_unused.ensures
