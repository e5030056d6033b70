-- `holder_clauses::listed_once` meets its contract.
use Prim.Native.Nat.{ℕ}
use mathlib.Core.Bool.{not, ◌||◌}
use mathlib.Core.Path.{ap, ◌∙◌}
use lib.Dec.{eqb}
use Rattle.soundness_loans.specs.vocabulary.Clauses.{list_all}
use Rattle.rows.specs.Sound.{is_fetched}
use Rattle.soundness_loans.proofs.holder_clauses.listed_once.Goals as goal

pub returns : goal.returns
unfolding is_fetched
returns c =
    let l = c.args.listing.now in record {
      once = (λ i. eqb c.args.v.fetched 1 || not (c.any_listed-newer.ensures i));
      all = c.mark_listing.ensures ∙ ap (λ (k : ℕ). list_all k c.args.slots l) c.code_of-code.ensures;
    }
