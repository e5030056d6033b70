-- `opening_words::write_line` meets its contract: by how the line begins.
use Rattle.rows.specs.Lists.{bytes}
use Rattle.text.specs.Patterns.{form}
use Rattle.text.proofs.SecondPass.{node-fits, node-named, node-written, other_fits, other-named, other-written}
use Rattle.text.proofs.opening_words.write_line.Goals as goal

pub write_entries-requires : goal.write_entries-requires
unfolding form bytes
write_entries-requires c =
    let good = c.if-f.true in
    let f = c.read_form-f in
    (c.requires.sizes.0, node-fits c.args.line.now f.result f.ensures c.args.rows c.requires.fits good)

pub returns-then-f : goal.returns-then-f
unfolding form bytes
returns-then-f c =
    let w = c.write_entries in
    let f = c.read_form-f in
    let a = c.args in record { named = node-named a.line.now f.result f.ensures a.rows c.requires.fits c.if-f.true a.g w.result w.ensures.named; written = node-written a.line.now f.result f.ensures a.rows c.requires.fits c.if-f.true a.t.now _ a.p.now w.result w.ensures.written; long = (w.ensures.long, c.requires.sizes.1) }

pub write_process-requires : goal.write_process-requires
unfolding form bytes
write_process-requires c =
    let f = c.read_form-f in
    (c.requires.sizes.1, other_fits c.args.line.now f.result f.ensures c.args.rows c.requires.fits c.if-f.false)

pub returns : goal.returns
unfolding form bytes
returns c =
    let w = c.write_process in
    let f = c.read_form-f in
    let a = c.args in record { named = other-named a.line.now f.result f.ensures a.rows c.requires.fits c.if-f.false a.g w.result w.ensures.named; written = other-written a.line.now f.result f.ensures a.rows c.requires.fits c.if-f.false a.t.now a.p.now _ w.result w.ensures.written; long = (c.requires.sizes.0, w.ensures.long) }
