-- Made by tools/computes: to unfold `computes` is to unfold every definition of this crate.

unfoldable pub computes : Unit {0}
unfolding Rattle.history.specs.Notes.noted Rattle.history.specs.Notes.nothing_noted Rattle.history.specs.Notes.noted_of Rattle.history.specs.Notes.no_loan Rattle.history.specs.Notes.loan_of Rattle.history.specs.Notes.spoiled Rattle.history.specs.Notes.survives Rattle.history.specs.Notes.sweep Rattle.history.specs.Notes.standing Rattle.history.specs.Notes.stands Rattle.history.specs.Notes.is_closed Rattle.history.specs.Notes.open_loans Rattle.history.specs.Notes.open_request Rattle.history.specs.Notes.is_closed_now Rattle.history.specs.Notes.stays_on_loan Rattle.history.specs.Notes.loans_left Rattle.history.specs.Notes.loans_settled Rattle.history.specs.Notes.add_row Rattle.history.specs.Notes.went_nowhere Rattle.history.specs.Notes.last_go Rattle.history.specs.Notes.note_go Rattle.history.specs.Notes.held_sources Rattle.history.specs.Notes.note_hold Rattle.history.specs.Notes.first_only Rattle.history.specs.Notes.note_register Rattle.history.specs.Notes.note_port Rattle.history.specs.Notes.is_end_noted Rattle.history.specs.Notes.ends_named Rattle.history.specs.Notes.copies_noted Rattle.history.specs.Notes.copied Rattle.history.specs.Notes.note_ask Rattle.history.specs.Notes.note_drop Rattle.history.specs.Notes.note_close Rattle.history.specs.Notes.note_revoke Rattle.history.specs.Notes.note_end Rattle.history.specs.Reading.entry_count Rattle.history.specs.Reading.down_from Rattle.history.specs.Reading.text_rows Rattle.history.specs.Reading.begun_with Rattle.history.specs.Reading.begun_by Rattle.history.specs.Reading.begun Rattle.history.specs.Reading.accepts Rattle.history.specs.Reading.number_answered Rattle.history.specs.Reading.items_named Rattle.history.specs.Reading.note_call Rattle.history.specs.Reading.note_reading Rattle.history.specs.Reading.note_line Rattle.history.specs.Reading.history_after Rattle.history.specs.Chains.IsNoted Rattle.history.specs.Chains.IsText Rattle.history.specs.Chains.IsSource Rattle.history.specs.Chains.RowUses Rattle.history.specs.Chains.Uses Rattle.history.specs.Chains.IsPort Rattle.history.specs.Chains.HasOnLoan Rattle.history.specs.FirstChains.Neighbours Rattle.history.specs.FirstChains.first_of Rattle.history.specs.FirstChains.last_of Rattle.history.specs.FirstChains.IsFirstSource Rattle.history.specs.ComesTold.first_in Rattle.history.specs.ComesTold.comes_told Rattle.history.specs.Demand3.lent_after Rattle.history.specs.Demand3.replies_to Rattle.history.specs.Demand3.state_in Rattle.history.specs.Demand3.InTables Rattle.history.specs.Demand3.ends_of Rattle.history.specs.Demand3.Returned Rattle.history.specs.Demand3.Revoked Rattle.history.specs.Demand3.Demand3 Rattle.history.specs.Kept.joined
computes = tt
