-- `sessions::run`: nothing is read at first; each turn reads on, or the session ends.
use Rattle.std.proofs.Common.{ℕ, rules, subst, sym, take, arith}
use Rattle.std.specs.Io.KnownBytes.{Consumes}
use Rattle.feed.specs.Feeding.{Session, begun}
use Rattle.feed.specs.vocabulary.Buffers.{session_in}
use Rattle.feed.proofs.Parts.{lengths-right}
use Rattle.stdio.proofs.Known.{on_ok}
use Rattle.stdio.proofs.Answered.{SoFar, far_none, far_more, ended-whole, over-whole}
use Rattle.stdio.proofs.sessions.run.Goals as goal

pub loop-init : goal.loop-init
loop-init g c =
    let a = c.args in
    let r = g.R.Read.remaining a.reader.now in
    let w = g.W.Write.contents a.writer.now in
    let s = begun a.tables.now a.processes.now in
    let start = c.begin-here.ensures a.kept.now a.tables.now a.processes.now c.requires.bytes.0 c.requires.words.0 c.requires.words.1 in
    (start.1, c.requires.bytes.1, search rules, subst (λ (u : Session). SoFar s r w u r w) (sym start.0) (far_none s r w))

pub loop-preserved : goal.loop-preserved
loop-preserved g c =
    let a = c.args in
    let l = c.loop in
    let n = c.answer_part.new in
    let part = take c.in-Ok.n c.read.new.buf in (
      c.in_ok-here.ensures.ready,
      search rules,
      search rules,
      far_more part (begun a.tables.now a.processes.now) (session_in l.here l.kept l.tables l.processes) (session_in c.in_ok-here.here n.kept n.tables n.processes)
          (g.R.Read.remaining a.reader.now) (g.W.Write.contents a.writer.now) (g.R.Read.remaining l.reader) (g.W.Write.contents l.writer)
          (g.R.Read.remaining c.read.new.self) (g.W.Write.contents n.writer) l.invariant.3 c.in-Ok.ensures.bytes.0 c.in_ok-here.ensures.answers,
    )

pub returns-then-eq : goal.returns-then-eq
unfolding session_in
returns-then-eq g c = λ some.
    let a = c.args in
    let l = c.loop in
    let n = c.answer_part.new in
    let t = a.tables.now in
    let p = a.processes.now in
    let r = g.R.Read.remaining a.reader.now in
    let w = g.W.Write.contents a.writer.now in
    let q = g.R.Read.remaining c.read.new.self in
    let v = g.W.Write.contents n.writer in
    let u = session_in c.in_ok-here.here n.kept n.tables n.processes in
    let so = far_more (take c.in-Ok.n c.read.new.buf) (begun t p) (session_in l.here l.kept l.tables l.processes) u r w (g.R.Read.remaining l.reader) (g.W.Write.contents l.writer) q v
    l.invariant.3 c.in-Ok.ensures.bytes.0 c.in_ok-here.ensures.answers in
    over-whole t p (lengths-right t p c.requires.words.0 c.requires.words.1) r w u q v so (search rules)

pub returns-then-n-eq0 : goal.returns-then-n-eq0
unfolding session_in
returns-then-n-eq0 g c =
    let a = c.args in
    let l = c.loop in
    let t = a.tables.now in
    let p = a.processes.now in
    let r = g.R.Read.remaining a.reader.now in
    let w = g.W.Write.contents a.writer.now in
    let q = g.R.Read.remaining l.reader in
    let v = g.W.Write.contents l.writer in
    let u = session_in l.here l.kept l.tables l.processes in
    let end = g.R.Read.remaining c.read.new.self in
    let z = g.W.Write.contents c.write_out.new.writer in
    let f = c.finish-printed in
    let bytes = c.in-Ok.ensures.bytes in
    on_ok c.write_out.result
    (λ put some.
    ended-whole t p (lengths-right t p c.requires.words.0 c.requires.words.1) r w u q v l.invariant.3 end z l.out f.new.tables f.new.processes f.new.out f.result
    (subst (λ (m : ℕ). Consumes q end (take m c.read.new.buf)) c.if-n-eq0.true bytes.0)
    (bytes.1 c.if-n-eq0.true (omega (arith, some, c.read.auto.buf, l.invariant.2)))
    f.ensures.given put)
    c.write_out.ensures
