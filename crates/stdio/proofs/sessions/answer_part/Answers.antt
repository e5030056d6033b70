-- `sessions::answer_part`: nothing of the part is answered at first; each piece is.
use Rattle.std.proofs.Common.{ℕ, List, rules, subst, arith}
use lib.Seq.{take_all}
use Rattle.feed.specs.vocabulary.Buffers.{session_in}
use Rattle.stdio.specs.Sessions.{Answers}
use Rattle.stdio.proofs.Answered.{answers_none, piece_answered}
use Rattle.stdio.proofs.sessions.answer_part.Goals as goal

pub loop-at-init : goal.loop-at-init
loop-at-init g c =
    let a = c.args in
    (search rules, c.requires.ready, search rules, answers_none (session_in a.k a.kept.now a.tables.now a.processes.now) (g.W.Write.contents a.writer.now))

pub loop-at-preserved : goal.loop-at-preserved
loop-at-preserved g c =
    let l = c.loop-at in
    let a = c.args in
    let f = c.feed-fed in (
      search rules,
      f.ensures.ready,
      search rules,
      piece_answered a.part.now l.at f.result.next (session_in a.k a.kept.now a.tables.now a.processes.now) (session_in l.here l.kept l.tables l.processes)
          f.result.kept f.new.kept f.new.tables f.new.processes l.out f.new.out f.result.printed
          (g.W.Write.contents a.writer.now) (g.W.Write.contents l.writer) (g.W.Write.contents c.write_out.new.writer)
          f.ensures.reads.0 l.invariant.3 f.ensures.fed (search rules),
    )

pub returns-clause-answers : goal.returns-clause-answers
returns-clause-answers g c =
    let l = c.loop-at in
    let a = c.args in
    let whole = take_all l.at a.part.now (omega arith) in
    subst (λ (xs : List ℕ). Answers xs (session_in a.k a.kept.now a.tables.now a.processes.now) (g.W.Write.contents a.writer.now)
    (session_in l.here l.kept l.tables l.processes) (g.W.Write.contents l.writer)) whole l.invariant.3
