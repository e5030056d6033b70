-- `feeding::line_ended` meets its contract: by the stage.
use Rattle.joining.proofs.ReadOn.{first-given, second-given, first-line, second-line, over-line}
use Rattle.joining.proofs.feeding.line_ended.Goals as goal

pub read_text_line-step-requires : goal.read_text_line-step-requires
read_text_line-step-requires c =
    (first-given c.args.j c.args.first.now c.args.second.now c.requires.progress c.requires.holds c.in-First.is).0

pub after_line-requires : goal.after_line-requires
after_line-requires c =
    (first-given c.args.j c.args.first.now c.args.second.now c.requires.progress c.requires.holds c.in-First.is).1

pub read_text_line-step-requires-in-Second : goal.read_text_line-step-requires-in-Second
read_text_line-step-requires-in-Second c =
    (second-given c.args.j c.args.first.now c.args.second.now c.requires.progress c.requires.holds c.in-Second.is).0

pub after_line-requires-in-Second : goal.after_line-requires-in-Second
after_line-requires-in-Second c =
    (second-given c.args.j c.args.first.now c.args.second.now c.requires.progress c.requires.holds c.in-Second.is).1

pub returns-in-First : goal.returns-in-First
returns-in-First c =
    let a = c.args in
    let step = c.read_text_line-step in
    λ p h. first-line a.j a.first.now a.second.now a.line.now step.result step.new.words c.after_line.result c.second_begins.result p h c.in-First.is step.ensures c.second_begins.ensures c.after_line.ensures

pub returns-in-Second : goal.returns-in-Second
returns-in-Second c =
    let a = c.args in
    let step = c.read_text_line-step-in-Second in
    λ p h. second-line a.j a.first.now a.second.now a.line.now step.result step.new.words c.after_line-in-Second.result c.both_read.result p h c.in-Second.is step.ensures c.both_read.ensures c.after_line-in-Second.ensures

pub returns-in-Over : goal.returns-in-Over
returns-in-Over c =
    let a = c.args in
    λ p h. over-line a.j a.first.now a.second.now a.line.now p h c.in-Over.is
