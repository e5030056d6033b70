-- `holder_clauses::mark_listing` meets its contract: the slots passed are listed.
use Rattle.std.proofs.Common.{◌≡◌, take}
use Rattle.soundness_loans.specs.vocabulary.Clauses.{list_all}
use Rattle.soundness_loans.proofs.holder_clauses.mark_listing.Given as goal

abbrev pub invariant-loop-s : goal.invariant-loop-s
invariant-loop-s l = l.listing ≡ list_all l.code (take l.s-index l.fn.slots) l.initial.listing
