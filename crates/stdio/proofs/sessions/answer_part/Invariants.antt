-- After each piece of the part the session is ready, and what came so far is answered.
use Rattle.std.proofs.Common.{◌≡◌, ◌≤◌, length, take, ◌-◌}
use Rattle.feed.specs.vocabulary.Buffers.{session_in, Ready}
use Rattle.stdio.specs.Sessions.{Answers}
use Rattle.stdio.proofs.sessions.answer_part.Given as goal

abbrev pub invariant-loop-at : goal.invariant-loop-at
invariant-loop-at g l =
    (l.at ≤ length l.part) × Ready l.here l.kept l.tables l.processes × (length l.out ≡ length l.fn.out)
    × Answers (take l.at l.part)
    (session_in l.fn.k l.fn.kept l.fn.tables l.fn.processes) (g.W.Write.contents l.fn.writer)
    (session_in l.here l.kept l.tables l.processes) (g.W.Write.contents l.writer)

abbrev pub decreases-loop-at : goal.decreases-loop-at
decreases-loop-at g l = length l.part - l.at
