-- Before each turn the session is ready, and what was read is answered.
use Rattle.std.proofs.Common.{◌≡◌, ◌≤◌, length}
use Rattle.text.specs.vocabulary.Sizes.{REPLY}
use Rattle.feed.specs.Feeding.{begun}
use Rattle.feed.specs.vocabulary.Buffers.{session_in, Ready}
use Rattle.stdio.proofs.Answered.{SoFar}
use Rattle.stdio.proofs.sessions.run.Given as goal

abbrev pub invariant-loop : goal.invariant-loop
invariant-loop g l =
    Ready l.here l.kept l.tables l.processes × (REPLY ≤ length l.out) × (length l.part ≡ length l.fn.part)
    × SoFar (begun l.fn.tables l.fn.processes) (g.R.Read.remaining l.fn.reader) (g.W.Write.contents l.fn.writer)
    (session_in l.here l.kept l.tables l.processes) (g.R.Read.remaining l.reader) (g.W.Write.contents l.writer)
