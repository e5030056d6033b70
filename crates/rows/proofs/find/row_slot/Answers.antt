-- `find::row_slot` meets its contract: it counts the slots in use and looks among them.
use Rattle.std.proofs.Common.{ℕ, ◌∙◌, subst}
use Rattle.rows.specs.vocabulary.Slots.{Within}
use Rattle.rows.proofs.Slots.{represented-rows}
use Rattle.rows.proofs.find.row_slot.Goals as goal

pub returns : goal.returns
returns c =
    let counted = c.rows_in-count.ensures.counted in
    record { within = subst (λ (k : ℕ). Within k c.row_among.result) counted c.row_among.ensures.within; found = (λ st rep. c.row_among.ensures.found st rep (counted ∙ represented-rows rep)) }
