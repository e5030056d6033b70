-- `call_line::simple_call` meets its contract: an arm for each word, its code that of the definition.
use mathlib.Core.Path.{◌∙◌}
use borrow.Author.Tests.{ne_eqb}
use Rattle.rows.specs.Limits.{greatest_number}
use Rattle.rows.specs.Lists.{bytes}
use Rattle.text.specs.CallLines.{simple}
use Rattle.text.specs.Patterns.{word_of, word_from, spelt}
use Rattle.text.proofs.call_line.simple_call.Goals as goal

pub returns-in-239 : goal.returns-in-239
unfolding simple word_of word_from bytes spelt greatest_number
returns-in-239 c =
    c.if_ranged.ensures ∙ rw (c.is_process-caller.ensures, c.in-239.is)

pub returns-in-277892 : goal.returns-in-277892
unfolding simple word_of word_from bytes spelt greatest_number
returns-in-277892 c =
    c.if_ranged-in-277892.ensures ∙ rw (c.is_process-caller.ensures, c.is_number.ensures, c.in-277892.is)

pub returns-in-624088961202 : goal.returns-in-624088961202
unfolding simple word_of word_from bytes spelt greatest_number
returns-in-624088961202 c =
    c.if_ranged-in-624088961202.ensures ∙ rw (c.is_process-caller.ensures, c.is_number.ensures, c.in-624088961202.is)

pub returns-in-150000 : goal.returns-in-150000
unfolding simple word_of word_from bytes spelt greatest_number
returns-in-150000 c =
    c.if_ranged-in-150000.ensures ∙ rw (c.is_process-caller.ensures, c.is_number.ensures, c.in-150000.is)

pub returns-in-540244 : goal.returns-in-540244
unfolding simple word_of word_from bytes spelt greatest_number
returns-in-540244 c =
    c.if_ranged-in-540244.ensures ∙ rw (c.is_process-caller.ensures, c.is_number.ensures, c.in-540244.is)

pub returns-in-3554917 : goal.returns-in-3554917
unfolding simple word_of word_from bytes spelt greatest_number
returns-in-3554917 c =
    c.if_ranged-in-3554917.ensures ∙ rw (c.is_process-caller.ensures, c.is_number.ensures, c.in-3554917.is)

pub returns-in-6475880 : goal.returns-in-6475880
unfolding simple word_of word_from bytes spelt greatest_number
returns-in-6475880 c =
    c.if_ranged-in-6475880.ensures ∙ rw (c.is_process-caller.ensures, c.is_number.ensures, c.in-6475880.is)

pub returns-in-609959269 : goal.returns-in-609959269
unfolding simple word_of word_from bytes spelt greatest_number
returns-in-609959269 c =
    c.if_ranged-in-609959269.ensures ∙ rw (c.is_process-caller.ensures, c.is_number.ensures, c.in-609959269.is)

pub returns-in_default : goal.returns-in_default
unfolding simple word_of word_from bytes spelt greatest_number
returns-in_default c =
    let w = c.args.w in
    let r = c.in_default.in_default-own.rest in
    let r3 = r.0.0.0 in
    let go = ne_eqb w 239 r3.0.0.0.0.1 in
    let hold = ne_eqb w 277892 r3.0.0.0.1 in
    let register = ne_eqb w 624088961202 r3.0.0.1 in
    let drops = ne_eqb w 150000 r3.0.1 in
    let port = ne_eqb w 540244 r3.1 in
    let close = ne_eqb w 3554917 r.0.0.1 in
    let fetch = ne_eqb w 6475880 r.0.1 in
    c.into.ensures ∙ rw (go, hold, register, drops, port, close, fetch, ne_eqb w 609959269 r.1)
