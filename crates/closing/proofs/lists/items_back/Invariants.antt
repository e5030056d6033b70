-- `lists::items_back`: the invariant is that the first k items went back.
use lib.ListN.{take}
use Rattle.rows.specs.vocabulary.Sizes.{IsTables}
use Rattle.changes.specs.vocabulary.Bits.{marks_in}
use Rattle.closing.specs.vocabulary.Lists.{SendsBack}
use Rattle.closing.proofs.lists.items_back.Given as goal

abbrev pub invariant-loop-e : goal.invariant-loop-e
invariant-loop-e l = IsTables l.t × SendsBack l.n l.v.asker (take l.e-index l.v.items) l.initial.t (marks_in l.initial.out) l.t (marks_in l.out)
