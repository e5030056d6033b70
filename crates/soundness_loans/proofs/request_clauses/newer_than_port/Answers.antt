-- `request_clauses::newer_than_port` meets its contract.
use native.Mathlib.Numerals.{add-one}
use mathlib.Core.Path.{refl}
use Rattle.soundness_loans.proofs.request_clauses.newer_than_port.Goals as goal

pub returns : goal.returns
returns c = rw (c.from.ensures, c.from-2.ensures, add-one) refl
