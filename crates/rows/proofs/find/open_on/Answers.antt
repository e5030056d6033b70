-- `find::open_on` meets its contract: it counts the slots in use and searches the column.
use Rattle.std.proofs.Common.{ℕ, ◌∙◌, subst}
use Rattle.rows.specs.vocabulary.Slots.{Within}
use Rattle.rows.proofs.Slots.{represented-requests}
use Rattle.rows.proofs.Lookups.{open-search}
use Rattle.rows.proofs.find.open_on.Goals as goal

pub returns : goal.returns
returns c =
    let counted = c.requests_in-count.ensures.counted in record { within = subst (λ (k : ℕ). Within k c.search_back.result) counted c.search_back.ensures.within; found = (λ st rep. open-search rep c.requests_in-count.result c.args.c c.search_back.result (counted ∙ represented-requests rep) c.search_back.ensures.found) }
