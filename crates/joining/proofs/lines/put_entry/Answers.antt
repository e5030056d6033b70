-- `lines::put_entry` meets its contract: by its kind.
use borrow.Author.Tests.{eq-eqb, ne_eqb}
use Rattle.rows.specs.Codes.{is_operation, operation}
use Rattle.joining.specs.Written.{entry_text}
use Rattle.joining.proofs.lines.put_entry.Goals as goal

pub returns-then-e-eq-AN_OPERATION : goal.returns-then-e-eq-AN_OPERATION
unfolding entry_text is_operation operation
returns-then-e-eq-AN_OPERATION c = record { put = rw (eq-eqb _ _ c.if-e-eq-AN_OPERATION.true) c.put_operation.ensures.put; grown = c.put_operation.ensures.grown }

pub returns : goal.returns
unfolding entry_text is_operation operation
returns c = record { put = rw (ne_eqb _ _ c.if-e-eq-AN_OPERATION.false) c.put_subdirectory.ensures.put; grown = c.put_subdirectory.ensures.grown }
