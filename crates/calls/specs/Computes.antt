-- Made by tools/computes: to unfold `computes` is to unfold every definition of this crate.

unfoldable pub computes : Unit {0}
unfolding Rattle.calls.specs.Answers.refusal_of Rattle.calls.specs.Answers.four_of Rattle.calls.specs.Answers.numbers_of Rattle.calls.specs.Answers.all_of Rattle.calls.specs.Answers.told_no Rattle.calls.specs.Answers.told_yes Rattle.calls.specs.Answers.not_told Rattle.calls.specs.Answers.told_value Rattle.calls.specs.Answers.values_of Rattle.calls.specs.Rules.lowest Rattle.calls.specs.Rules.refused Rattle.calls.specs.Rules.judge Rattle.calls.specs.Rules.not_held Rattle.calls.specs.Rules.has_open Rattle.calls.specs.Rules.asked_of Rattle.calls.specs.Rules.too_deep Rattle.calls.specs.Rules.rows_full Rattle.calls.specs.Rules.requests_full Rattle.calls.specs.Rules.numbers_spent Rattle.calls.specs.Rules.with_new_rows Rattle.calls.specs.Rules.copy_of Rattle.calls.specs.Rules.with_record Rattle.calls.specs.Loans.items_of Rattle.calls.specs.Loans.item_row Rattle.calls.specs.Loans.moves Rattle.calls.specs.Loans.copies Rattle.calls.specs.Loans.copy_depth Rattle.calls.specs.Loans.copy_lent Rattle.calls.specs.Loans.to_system Rattle.calls.specs.Loans.lend_end Rattle.calls.specs.Loans.lend_copy Rattle.calls.specs.Loans.lend_item Rattle.calls.specs.Loans.lend_items Rattle.calls.specs.Loans.lent Rattle.calls.specs.Loans.new_request Rattle.calls.specs.Loans.with_request Rattle.calls.specs.Loans.handed_to Rattle.calls.specs.Loans.now_fetched Rattle.calls.specs.Loans.handed_over Rattle.calls.specs.Calls.refusals_go Rattle.calls.specs.Calls.go_home Rattle.calls.specs.Calls.go_through Rattle.calls.specs.Calls.refusals_hold Rattle.calls.specs.Calls.with_held Rattle.calls.specs.Calls.refusals_register Rattle.calls.specs.Calls.with_registered Rattle.calls.specs.Calls.in_use Rattle.calls.specs.Calls.refusals_drop Rattle.calls.specs.Calls.refusals_port Rattle.calls.specs.Calls.port_end Rattle.calls.specs.Calls.with_port Rattle.calls.specs.Calls.refusals_close Rattle.calls.specs.Calls.lacks_right Rattle.calls.specs.Calls.is_busy Rattle.calls.specs.Calls.refusals_ask Rattle.calls.specs.Calls.refusals_fetch Rattle.calls.specs.Calls.lent_ends Rattle.calls.specs.Calls.is_away Rattle.calls.specs.Calls.refusals_answer Rattle.calls.specs.Calls.refusals_revoke Rattle.calls.specs.Calls.refusals_comes Rattle.calls.specs.Calls.refusals_chain Rattle.calls.specs.Calls.told Rattle.calls.specs.Calls.told_each Rattle.calls.specs.Calls.refusals Rattle.calls.specs.Calls.done Rattle.calls.specs.Calls.made Rattle.calls.specs.Calls.fetched_answer Rattle.calls.specs.Calls.four_from Rattle.calls.specs.Calls.chained_answer Rattle.calls.specs.Calls.sixteen_from Rattle.calls.specs.Calls.effect Rattle.calls.specs.Calls.perform Rattle.calls.specs.Calls.caller_of
computes = tt
