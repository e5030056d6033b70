-- `deciding::undecided` meets its contract: the first pass would stop after the last line.
use mathlib.Core.List.{[]}
use mathlib.Core.Path.{ap, ◌∙◌}
use lib.ListN.{length}
use Rattle.text.specs.Opening.{lines_of, first_pass}
use Rattle.feed.specs.Feeding.{goes_on, undecided}
use Rattle.feed.proofs.Buffers.{pass-ended, pass-waits}
use Rattle.feed.proofs.deciding.undecided.Goals as goal

pub returns-in-Ok : goal.returns-in-Ok
unfolding undecided
returns-in-Ok c =
    let ls = lines_of c.args.text.now in
    pass-ended (first_pass [] 1 ls) c.in-Ok.given (length ls) c.in-Ok.ensures

pub returns-in-Err : goal.returns-in-Err
unfolding undecided
returns-in-Err c =
    let n = c.count_lines in
    let x = first_pass [] 1 (lines_of c.args.text.now) in
    pass-waits x c.in-Err.refused n.result c.in-Err.ensures ∙ ap (goes_on x) n.ensures
