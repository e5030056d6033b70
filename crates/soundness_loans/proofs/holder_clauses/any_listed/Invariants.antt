-- `holder_clauses::any_listed` meets its contract: one of the slots passed is listed, or none.
use Rattle.std.proofs.Common.{◌≡◌, take}
use Rattle.soundness_loans.specs.vocabulary.Clauses.{any_listed}
use Rattle.soundness_loans.proofs.holder_clauses.any_listed.Given as goal

abbrev pub invariant-loop-s : goal.invariant-loop-s
invariant-loop-s l = l.listed ≡ any_listed l.listing (take l.s-index l.fn.slots)
