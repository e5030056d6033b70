use borrow.Author.Rules.{rules}
use Prim.Native.Nat.{◌≤◌, ◌-◌}
use native.Mathlib.Omega.{arith}
use mathlib.Core.Path.{◌∙◌}
use lib.ListN.{length, take, drop, length-drop}
use lib.Seq.{length-take-le}
use Rattle.text.specs.vocabulary.Sizes.{REPLY}
use Rattle.feed.proofs.Parts.{feeding-starts, feeding-ready, feeding-within, feeding-goes-on, feeding-full, reached-room}
use Rattle.feed.proofs.sessions.feed.Goals as goal

pub loop-i-init : goal.loop-i-init
loop-i-init c =
    (feeding-starts c.args.part.now c.args.at c.args.k c.args.kept.now c.args.tables.now c.args.processes.now c.args.out.now c.requires.sizes.0 c.requires.ready.stands, search rules, search rules, search rules, search rules, omega arith)

pub feed_byte-moved-requires : goal.feed_byte-moved-requires
feed_byte-moved-requires c =
    let l = c.loop-i in
    let ready = feeding-ready c.args.part.now c.args.at c.args.k c.args.kept.now c.args.tables.now c.args.processes.now c.args.out.now l.here l.kept l.tables l.processes l.out l.i l.n l.invariant.0 c.requires.ready l.invariant.3 in
    let left = length-drop l.n l.out in
    let rest = length-take-le (length l.out - l.n) (drop l.n l.out) (omega arith) in
    let some = c.if-out-n-lt-REPLY.false in
    let room : REPLY ≤ length (take (length l.out - l.n) (drop l.n l.out)) = omega arith in
    (reached-room l.here _ _ _ ready.long ready.stands ready.reached, room)

pub overflow_add-n : goal.overflow_add-n
overflow_add-n c =
    let l = c.loop-i in
    let m = c.feed_byte-moved in
    let short = feeding-within c.args.part.now c.args.at c.args.k c.args.kept.now c.args.tables.now c.args.processes.now c.args.out.now l.here l.kept l.tables l.processes l.out l.i l.n l.invariant.0 l.invariant.5 _ m.result _ _ _ _ m.ensures c.out-1.given.0 in
    search rules

pub loop-i-preserved : goal.loop-i-preserved
loop-i-preserved c =
    let l = c.loop-i in
    let m = c.feed_byte-moved in
    let short = feeding-within c.args.part.now c.args.at c.args.k c.args.kept.now c.args.tables.now c.args.processes.now c.args.out.now l.here l.kept l.tables l.processes l.out l.i l.n l.invariant.0 l.invariant.5 _ m.result _ _ _ _ m.ensures c.out-1.given.0 in
    let same = c.out-1.given.1 in
    (feeding-goes-on c.args.part.now c.args.at c.args.k c.args.kept.now c.args.tables.now c.args.processes.now c.args.out.now l.here l.kept l.tables l.processes l.out l.i l.n l.invariant.0 c.loop-i-test.true l.invariant.5 m.result _ _ _ _ m.ensures, c.tables-1.given ∙ l.invariant.1, c.processes-1.given ∙ l.invariant.2, c.kept-1.given ∙ l.invariant.3, same ∙ l.invariant.4, omega arith)

pub returns-then-out-n-lt-REPLY : goal.returns-then-out-n-lt-REPLY
returns-then-out-n-lt-REPLY c =
    let l = c.loop-i in
    let f = l.invariant.0 in
    let full = c.if-out-n-lt-REPLY.true in
    record { fed = f.takes; ready = feeding-ready c.args.part.now c.args.at c.args.k c.args.kept.now c.args.tables.now c.args.processes.now c.args.out.now l.here l.kept l.tables l.processes l.out l.i l.n l.invariant.0 c.requires.ready l.invariant.3; reads = (f.low, f.high, λ some. feeding-full c.args.part.now c.args.at c.args.k c.args.kept.now c.args.tables.now c.args.processes.now c.args.out.now l.here l.kept l.tables l.processes l.out l.i l.n l.invariant.0 full (omega arith)); within = l.invariant.5 }

pub returns-clause-ready : goal.returns-clause-ready
returns-clause-ready c =
    let l = c.loop-i in
    feeding-ready c.args.part.now c.args.at c.args.k c.args.kept.now c.args.tables.now c.args.processes.now c.args.out.now l.here l.kept l.tables l.processes l.out l.i l.n l.invariant.0 c.requires.ready l.invariant.3
