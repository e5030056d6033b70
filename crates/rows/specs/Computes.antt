-- Made by tools/computes: to unfold `computes` is to unfold every definition of this crate.

unfoldable pub computes : Unit {0}
unfolding Rattle.rows.specs.Lists.filter Rattle.rows.specs.Lists.any Rattle.rows.specs.Lists.all Rattle.rows.specs.Lists.each Rattle.rows.specs.Lists.first_with Rattle.rows.specs.Lists.slot_with Rattle.rows.specs.Lists.top_of Rattle.rows.specs.Lists.rises Rattle.rows.specs.Lists.pad Rattle.rows.specs.Lists.laid Rattle.rows.specs.Lists.member Rattle.rows.specs.Lists.distinct Rattle.rows.specs.Lists.same_list Rattle.rows.specs.Lists.between Rattle.rows.specs.Lists.some Rattle.rows.specs.Lists.nonzero Rattle.rows.specs.Lists.bytes Rattle.rows.specs.Limits.processes Rattle.rows.specs.Limits.nodes Rattle.rows.specs.Limits.greatest_operation Rattle.rows.specs.Limits.all_rights Rattle.rows.specs.Limits.greatest_number Rattle.rows.specs.Limits.row_slots Rattle.rows.specs.Limits.request_slots Rattle.rows.specs.Limits.greatest_depth Rattle.rows.specs.Limits.most_items Rattle.rows.specs.Limits.most_pairs Rattle.rows.specs.Limits.most_entries Rattle.rows.specs.Limits.most_bytes Rattle.rows.specs.Codes.operation Rattle.rows.specs.Codes.subdirectory Rattle.rows.specs.Codes.client_end Rattle.rows.specs.Codes.server_end Rattle.rows.specs.Codes.is_operation Rattle.rows.specs.Codes.is_subdirectory Rattle.rows.specs.Codes.is_client Rattle.rows.specs.Codes.is_server Rattle.rows.specs.Codes.is_end Rattle.rows.specs.Codes.is_copied Rattle.rows.specs.Codes.in_node Rattle.rows.specs.Codes.in_clist Rattle.rows.specs.Codes.with_system Rattle.rows.specs.Codes.is_node Rattle.rows.specs.Codes.is_clist Rattle.rows.specs.Codes.is_system Rattle.rows.specs.Codes.owner_of Rattle.rows.specs.Codes.may_hold Rattle.rows.specs.Codes.may_transfer Rattle.rows.specs.Codes.may_register Rattle.rows.specs.Codes.within Rattle.rows.specs.Tables.no_row Rattle.rows.specs.Tables.no_request Rattle.rows.specs.Tables.no_process Rattle.rows.specs.Tables.empty Rattle.rows.specs.Tables.row_of Rattle.rows.specs.Tables.request_of Rattle.rows.specs.Tables.open_on Rattle.rows.specs.Tables.process_at Rattle.rows.specs.Tables.is_listed Rattle.rows.specs.Tables.numbers Rattle.rows.specs.Tables.sources Rattle.rows.specs.Tables.depth_over Rattle.rows.specs.Tables.reaches Rattle.rows.specs.Tables.mark Rattle.rows.specs.Tables.marked Rattle.rows.specs.Tables.bears Rattle.rows.specs.Tables.comes_from Rattle.rows.specs.Tables.first_chain Rattle.rows.specs.Tables.lists Rattle.rows.specs.Tables.on_loan Rattle.rows.specs.Tables.lent_itself Rattle.rows.specs.Tables.is_lent Rattle.rows.specs.Setters.with_place Rattle.rows.specs.Setters.with_sources Rattle.rows.specs.Sound.rows_rise Rattle.rows.specs.Sound.requests_rise Rattle.rows.specs.Sound.numbers_apart Rattle.rows.specs.Sound.below_next Rattle.rows.specs.Sound.next_in_range Rattle.rows.specs.Sound.rows_fit Rattle.rows.specs.Sound.requests_fit Rattle.rows.specs.Sound.object_in_range Rattle.rows.specs.Sound.objects_in_range Rattle.rows.specs.Sound.right_in_range Rattle.rows.specs.Sound.rights_in_range Rattle.rows.specs.Sound.place_in_range Rattle.rows.specs.Sound.places_in_range Rattle.rows.specs.Sound.sourced Rattle.rows.specs.Sound.is_opening Rattle.rows.specs.Sound.is_registered Rattle.rows.specs.Sound.is_held Rattle.rows.specs.Sound.is_port_end Rattle.rows.specs.Sound.is_lent_copy Rattle.rows.specs.Sound.has_right_sources Rattle.rows.specs.Sound.sources_right Rattle.rows.specs.Sound.has_right_depth Rattle.rows.specs.Sound.depths_right Rattle.rows.specs.Sound.matches_source Rattle.rows.specs.Sound.copies_match Rattle.rows.specs.Sound.is_paired_with Rattle.rows.specs.Sound.other_end Rattle.rows.specs.Sound.end_paired Rattle.rows.specs.Sound.ends_paired Rattle.rows.specs.Sound.fetched_in_range Rattle.rows.specs.Sound.port_stands Rattle.rows.specs.Sound.ports_stand Rattle.rows.specs.Sound.requesters_listed Rattle.rows.specs.Sound.items_few Rattle.rows.specs.Sound.items_apart Rattle.rows.specs.Sound.may_be_listed Rattle.rows.specs.Sound.items_lent Rattle.rows.specs.Sound.one_per_port Rattle.rows.specs.Sound.copy_listed Rattle.rows.specs.Sound.copies_listed Rattle.rows.specs.Sound.is_fetched Rattle.rows.specs.Sound.older_fetched_by Rattle.rows.specs.Sound.older_fetched Rattle.rows.specs.Sound.awaits_fetch Rattle.rows.specs.Sound.same Rattle.rows.specs.Sound.system_holds Rattle.rows.specs.Sound.records_fit Rattle.rows.specs.Sound.record_unused Rattle.rows.specs.Sound.record_in_range Rattle.rows.specs.Sound.records_in_range Rattle.rows.specs.Sound.process_placed Rattle.rows.specs.Sound.placed_from Rattle.rows.specs.Sound.processes_placed Rattle.rows.specs.Sound.number_clauses Rattle.rows.specs.Sound.row_clauses Rattle.rows.specs.Sound.loan_clauses Rattle.rows.specs.Sound.holder_clauses Rattle.rows.specs.Sound.process_clauses Rattle.rows.specs.Sound.every Rattle.rows.specs.Sound.parts Rattle.rows.specs.Sound.sound Rattle.rows.specs.Layout.layout_version Rattle.rows.specs.Layout.row_columns Rattle.rows.specs.Layout.request_columns Rattle.rows.specs.Layout.requests_at Rattle.rows.specs.Layout.next_at Rattle.rows.specs.Layout.tables_length Rattle.rows.specs.Layout.processes_length Rattle.rows.specs.Layout.row_slot Rattle.rows.specs.Layout.source_slot Rattle.rows.specs.Layout.slotted Rattle.rows.specs.Layout.row_word Rattle.rows.specs.Layout.request_word Rattle.rows.specs.Layout.row_words Rattle.rows.specs.Layout.request_words Rattle.rows.specs.Layout.words_of Rattle.rows.specs.Layout.records_of Rattle.rows.specs.Layout.leading Rattle.rows.specs.Layout.row_field Rattle.rows.specs.Layout.request_field Rattle.rows.specs.Layout.rows_in Rattle.rows.specs.Layout.requests_in Rattle.rows.specs.Layout.number_at Rattle.rows.specs.Layout.raw_row Rattle.rows.specs.Layout.row_at Rattle.rows.specs.Layout.rows_to Rattle.rows.specs.Layout.request_at Rattle.rows.specs.Layout.requests_to Rattle.rows.specs.Layout.records_in Rattle.rows.specs.Layout.state_of Rattle.rows.specs.Layout.right_lengths Rattle.rows.specs.Layout.sound_words Rattle.rows.specs.Layout.cleared_tables Rattle.rows.specs.Layout.cleared_processes
computes = tt
