-- The measure of the cycle is twice the depth: a row's question may ask of its second source at the same depth.
use Rattle.std.proofs.Common.{◌+◌}
use mathlib.Core.Bool.{Bool}
use Rattle.questions.specs.vocabulary.Questions.{Reaches}
use Rattle.questions.proofs.question.+port_question_row_question_via_question.Given as goal

abbrev pub decreases-port_question : goal.decreases-port_question
decreases-port_question l = l.d + l.d + 1

abbrev pub decreases-row_question : goal.decreases-row_question
decreases-row_question l = l.d + l.d + 1

abbrev pub decreases-via_question : goal.decreases-via_question
decreases-via_question l = l.d + l.d

abbrev pub invariant-row_question-loop-left : goal.invariant-row_question-loop-left
invariant-row_question-loop-left l = (r : Bool) → Reaches l.t l.word l.q l.left r → Reaches l.t l.s l.q l.d r
