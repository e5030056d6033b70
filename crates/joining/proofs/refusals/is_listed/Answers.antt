-- `refusals::is_listed` meets its contract: by the prime nodes of a process, or by the words of a node.
use Rattle.rows.specs.Codes.{is_operation, operation}
use borrow.Author.Tests.{eq-eqb, ne_eqb}
use Rattle.joining.proofs.ListedNames.{operation-listed, subdirectory-listed}
use Rattle.joining.proofs.refusals.is_listed.Goals as goal

pub returns-then-e-eq-AN_OPERATION : goal.returns-then-e-eq-AN_OPERATION
unfolding is_operation operation
returns-then-e-eq-AN_OPERATION c =
    let a = c.args in
    λ fs gs ha hb. operation-listed a.first.now a.second.now fs gs ha hb a.e _ _ (eq-eqb _ _ c.if-e-eq-AN_OPERATION.true) (c.prime_of.ensures fs ha) (c.prime_of-then-e-eq-AN_OPERATION.ensures gs hb)

pub returns : goal.returns
unfolding is_operation operation
returns c =
    let a = c.args in
    λ fs gs ha hb. subdirectory-listed a.first.now a.second.now fs gs ha hb a.e _ _ (ne_eqb _ _ c.if-e-eq-AN_OPERATION.false) (c.has_node.ensures fs ha) (c.has_node-2.ensures gs hb)
