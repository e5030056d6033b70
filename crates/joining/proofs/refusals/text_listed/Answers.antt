-- `refusals::text_listed` meets its contract: by nodes and by processes.
use mathlib.Core.Bool.{◌&&◌}
use mathlib.Core.List.{◌++◌}
use mathlib.Core.Path.{◌∙◌}
use Rattle.joining.proofs.ListedNames.{text-listed}
use Rattle.joining.proofs.refusals.text_listed.Goals as goal

pub returns : goal.returns
returns c =
    λ fs gs ha hb hs hw. (λ i. c.nodes_listed.ensures fs gs ha hb hs hw i && c.primes_listed.ensures fs gs ha hb hs hw i) ∙ text-listed (fs ++ gs) hs hw.passed
