-- `opening_lines::entry_ranged` meets its contract.
use borrow.Author.Tests.{ne_eqb}
use Rattle.rows.specs.Codes.{is_operation, operation, is_node}
use Rattle.rows.specs.Limits.{all_rights, greatest_operation}
use Rattle.text.specs.CallLines.{is_process}
use Rattle.text.specs.Opening.{entry_ranged}
use Rattle.text.proofs.opening_lines.entry_ranged.Goals as goal

pub returns-then-e-eq-AN_OPERATION : goal.returns-then-e-eq-AN_OPERATION
unfolding entry_ranged is_operation operation all_rights greatest_operation is_process
returns-then-e-eq-AN_OPERATION c =
    rw (c.is_process.ensures, c.if-e-eq-AN_OPERATION.true)

pub returns : goal.returns
unfolding entry_ranged is_operation operation all_rights is_node
returns c =
    let e = c.args.e in
    rw (c.is_node.ensures, ne_eqb e.kind 1 c.if-e-eq-AN_OPERATION.false)
