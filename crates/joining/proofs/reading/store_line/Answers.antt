-- `reading::store_line` meets its contract: by how the line begins.
use mathlib.Core.Path.{sym, subst}
use Rattle.rows.specs.Lists.{bytes}
use Rattle.text.specs.Patterns.{form}
use Rattle.joining.specs.vocabulary.Reading.{Takes, Stores}
use Rattle.joining.proofs.ReadLines.{is-node, is-process}
use Rattle.joining.proofs.reading.store_line.Goals as goal

pub store_node-requires : goal.store_node-requires
unfolding form bytes
store_node-requires c =
    let f = c.read_form-f in
    let k = c.requires in
    subst (Takes c.args.words.now) (is-node c.args.line.now f.result f.ensures k.form k.is c.if-f.true) k.takes

pub returns-then-f : goal.returns-then-f
unfolding form bytes
returns-then-f c =
    let f = c.read_form-f in
    λ g line. subst (λ x. Stores c.args.words.now x c.store_node.new.words) (sym (is-node c.args.line.now f.result f.ensures g line c.if-f.true)) c.store_node.ensures

pub store_process-requires : goal.store_process-requires
unfolding form bytes
store_process-requires c =
    let f = c.read_form-f in
    let p = c.read_form-p in
    let k = c.requires in
    subst (Takes c.args.words.now) (is-process c.args.line.now f.result f.ensures k.form k.is c.if-f.false p.result p.ensures) k.takes

pub returns : goal.returns
unfolding form bytes
returns c =
    let f = c.read_form-f in
    let p = c.read_form-p in
    λ g line. subst (λ x. Stores c.args.words.now x c.store_process.new.words) (sym (is-process c.args.line.now f.result f.ensures g line c.if-f.false p.result p.ensures)) c.store_process.ensures
