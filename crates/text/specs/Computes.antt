-- Made by tools/computes: to unfold `computes` is to unfold every definition of this crate.

unfoldable pub computes : Unit {0}
unfolding Rattle.text.specs.Patterns.is_digit Rattle.text.specs.Patterns.is_letter Rattle.text.specs.Patterns.grown_to Rattle.text.specs.Patterns.grown Rattle.text.specs.Patterns.spelt Rattle.text.specs.Patterns.run Rattle.text.specs.Patterns.digits Rattle.text.specs.Patterns.letters Rattle.text.specs.Patterns.bad Rattle.text.specs.Patterns.began Rattle.text.specs.Patterns.counted Rattle.text.specs.Patterns.worded Rattle.text.specs.Patterns.passed Rattle.text.specs.Patterns.number Rattle.text.specs.Patterns.word Rattle.text.specs.Patterns.itself Rattle.text.specs.Patterns.piece Rattle.text.specs.Patterns.pieces Rattle.text.specs.Patterns.form Rattle.text.specs.Patterns.whole Rattle.text.specs.Patterns.word_from Rattle.text.specs.Patterns.word_of Rattle.text.specs.Patterns.most_groups Rattle.text.specs.CallLines.is_process Rattle.text.specs.CallLines.is_number Rattle.text.specs.CallLines.ranged Rattle.text.specs.CallLines.simple Rattle.text.specs.CallLines.simple_form Rattle.text.specs.CallLines.chain_form Rattle.text.specs.CallLines.answer_form Rattle.text.specs.CallLines.comes_form Rattle.text.specs.CallLines.group_of Rattle.text.specs.CallLines.add_group Rattle.text.specs.CallLines.gathered Rattle.text.specs.CallLines.pair_ranged Rattle.text.specs.CallLines.comes_all Rattle.text.specs.CallLines.judged_pairs Rattle.text.specs.CallLines.comes_all_form Rattle.text.specs.CallLines.item_of Rattle.text.specs.CallLines.item_ranged Rattle.text.specs.CallLines.no_item Rattle.text.specs.CallLines.packed Rattle.text.specs.CallLines.judged Rattle.text.specs.CallLines.ask_form Rattle.text.specs.CallLines.reading_of Rattle.text.specs.Opening.with_byte Rattle.text.specs.Opening.lines_of Rattle.text.specs.Opening.kept_of_line Rattle.text.specs.Opening.cut Rattle.text.specs.Opening.operation_entry Rattle.text.specs.Opening.subdirectory_entry Rattle.text.specs.Opening.add_entry Rattle.text.specs.Opening.entries_from Rattle.text.specs.Opening.node_line Rattle.text.specs.Opening.process_line Rattle.text.specs.Opening.open_line Rattle.text.specs.Opening.line_of Rattle.text.specs.Opening.entry_ranged Rattle.text.specs.Opening.gives_node Rattle.text.specs.Opening.gives_process Rattle.text.specs.Opening.prime_of Rattle.text.specs.Opening.form_refusal Rattle.text.specs.Opening.first_pass Rattle.text.specs.Opening.entry_listed Rattle.text.specs.Opening.form_listed Rattle.text.specs.Opening.missing_at Rattle.text.specs.Opening.second_pass Rattle.text.specs.Opening.opening_of Rattle.text.specs.Opening.entry_row Rattle.text.specs.Opening.with_entries Rattle.text.specs.Opening.entries_in Rattle.text.specs.Opening.with_form Rattle.text.specs.Opening.opened_from Rattle.text.specs.Answers.decimal Rattle.text.specs.Answers.digits_of Rattle.text.specs.Answers.value_text Rattle.text.specs.Answers.spaced Rattle.text.specs.Answers.ok_text Rattle.text.specs.Answers.no_text Rattle.text.specs.Answers.printed Rattle.text.specs.ReadBack.simple_text Rattle.text.specs.ReadBack.groups_text Rattle.text.specs.ReadBack.item_group Rattle.text.specs.ReadBack.ask_text Rattle.text.specs.ReadBack.last_of Rattle.text.specs.ReadBack.answer_text Rattle.text.specs.ReadBack.comes_text Rattle.text.specs.ReadBack.chain_text Rattle.text.specs.ReadBack.paired Rattle.text.specs.ReadBack.pairs_of Rattle.text.specs.ReadBack.comes_all_text Rattle.text.specs.ReadBack.call_text Rattle.text.specs.ReadBack.InRange Rattle.text.specs.ReadBack.number_read Rattle.text.specs.ReadBack.dash_read Rattle.text.specs.ReadBack.value_at Rattle.text.specs.ReadBack.values_at Rattle.text.specs.ReadBack.answered_by Rattle.text.specs.ReadBack.number_of Rattle.text.specs.ReadBack.numbers_in Rattle.text.specs.ReadBack.saying Rattle.text.specs.ReadBack.value_in_range Rattle.text.specs.ReadBack.answer_in_range Rattle.text.specs.Entry.caller_unlisted Rattle.text.specs.Entry.answered Rattle.text.specs.Entry.call_on Rattle.text.specs.Entry.reply_with Rattle.text.specs.Entry.reply_of Rattle.text.specs.Entry.call_entry Rattle.text.specs.Entry.state_opened Rattle.text.specs.Entry.opened_by Rattle.text.specs.Entry.open_entry Rattle.text.specs.Session.answers Rattle.text.specs.Session.session_of Rattle.text.specs.Session.session Rattle.text.specs.Session.state_after Rattle.text.specs.Session.end_of Rattle.text.specs.Session.session_end
computes = tt
