-- Made by tools/computes: to unfold `computes` is to unfold every definition of this crate.

unfoldable pub computes : Unit {0}
unfolding Rattle.joining.specs.Joins.node_in Rattle.joining.specs.Joins.entries_of Rattle.joining.specs.Joins.process_in Rattle.joining.specs.Joins.same_entry Rattle.joining.specs.Joins.with_new Rattle.joining.specs.Joins.with_all_new Rattle.joining.specs.Joins.entries_joined Rattle.joining.specs.Joins.prime_joined Rattle.joining.specs.Joins.numbers_from Rattle.joining.specs.Joins.nodes_joined Rattle.joining.specs.Joins.processes_joined Rattle.joining.specs.Joins.forms_joined Rattle.joining.specs.Joins.name_missing Rattle.joining.specs.Joins.node_crowded Rattle.joining.specs.Joins.primes_differ Rattle.joining.specs.Joins.join_refusal Rattle.joining.specs.Joins.joined_by Rattle.joining.specs.Joins.after_second Rattle.joining.specs.Joins.after_first Rattle.joining.specs.Joins.join_of Rattle.joining.specs.Written.operation_text Rattle.joining.specs.Written.subdirectory_text Rattle.joining.specs.Written.entry_text Rattle.joining.specs.Written.entries_text Rattle.joining.specs.Written.form_text Rattle.joining.specs.Written.text_of Rattle.joining.specs.Written.join_text Rattle.joining.specs.Written.join Rattle.joining.specs.Feeding.after_line Rattle.joining.specs.Feeding.line_fed Rattle.joining.specs.Feeding.joined_at Rattle.joining.specs.Feeding.begun Rattle.joining.specs.Feeding.byte_fed Rattle.joining.specs.Feeding.fed Rattle.joining.specs.Feeding.parts_fed Rattle.joining.specs.Feeding.printed_on Rattle.joining.specs.Opened.row_entry Rattle.joining.specs.Opened.entries_at Rattle.joining.specs.Opened.times Rattle.joining.specs.Opened.times_joined Rattle.joining.specs.Opened.giving_each Rattle.joining.specs.Opened.in_order
computes = tt
