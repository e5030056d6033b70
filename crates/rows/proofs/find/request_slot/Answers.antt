-- `find::request_slot` meets its contract: it counts the slots in use and searches the column.
use Rattle.std.proofs.Common.{ℕ, ◌∙◌, subst}
use Rattle.rows.specs.vocabulary.Slots.{Within}
use Rattle.rows.proofs.Slots.{represented-requests}
use Rattle.rows.proofs.Lookups.{request-search}
use Rattle.rows.proofs.find.request_slot.Goals as goal

pub returns : goal.returns
returns c =
    let counted = c.requests_in-count.ensures.counted in record { within = subst (λ (k : ℕ). Within k c.search.result) counted c.search.ensures.within; found = (λ st rep. request-search rep c.requests_in-count.result c.args.q c.search.result (counted ∙ represented-requests rep) c.search.ensures.found) }
