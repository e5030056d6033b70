-- The columns passed are changed and as long as they were, the others are as they were.
use Rattle.std.proofs.Common.{◌≡◌, ◌*◌, length}
use Rattle.changes.specs.vocabulary.Marks.{on_parts}
use Rattle.changes.proofs.Parts.{Changed}
use Rattle.changes.proofs.on_each.on_each.Given as goal

abbrev pub invariant-loop-k : goal.invariant-loop-k
invariant-loop-k g l =
    let does = g.C.OnColumn.does l.c in
    (length l.part ≡ length l.initial.part) × (length (on_parts does l.size l.k l.initial.part) ≡ l.k * l.size) × Changed does l.size l.initial.part l.part l.k
