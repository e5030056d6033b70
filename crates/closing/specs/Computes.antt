-- Made by tools/computes: to unfold `computes` is to unfold every definition of this crate.

unfoldable pub computes : Unit {0}
unfolding Rattle.closing.specs.Closing.closes Rattle.closing.specs.Closing.oldest_listing Rattle.closing.specs.Closing.returned Rattle.closing.specs.Closing.listed_in Rattle.closing.specs.Closing.leaves Rattle.closing.specs.Closing.trimmed Rattle.closing.specs.Closing.remaining Rattle.closing.specs.Closing.homed Rattle.closing.specs.Closing.settled Rattle.closing.specs.Closing.closing Rattle.closing.specs.Closing.close_request Rattle.closing.specs.Closing.is_end_of Rattle.closing.specs.Closing.close_port Rattle.closing.specs.Closing.is_row Rattle.closing.specs.Closing.drop_row Rattle.closing.specs.Steps.falls Rattle.closing.specs.Steps.remove_rows Rattle.closing.specs.Steps.close_requests Rattle.closing.specs.Steps.round Rattle.closing.specs.Steps.rounds Rattle.closing.specs.Steps.until_no_more Rattle.closing.specs.Steps.closing_by_steps Rattle.closing.specs.Steps.close_request_by_steps Rattle.closing.specs.Steps.close_port_by_steps
computes = tt
