-- After each turn the texts are read so far.
use Rattle.std.proofs.Common.{◌≤◌, length}
use Rattle.text.specs.vocabulary.Sizes.{REPLY}
use Rattle.joining.specs.vocabulary.Reading.{ReadyTexts}
use Rattle.join.proofs.texts.join.Given as goal

abbrev pub invariant-loop : goal.invariant-loop
invariant-loop g l = ReadyTexts l.here l.kept l.line l.first l.second × (REPLY ≤ length l.out)
