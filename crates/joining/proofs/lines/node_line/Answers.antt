-- `lines::node_line` meets its contract: that of the node, or nothing.
use native.Mathlib.Omega.{arith}
use mathlib.Core.List.{[]}
use mathlib.Core.Path.{◌≡◌, refl, sym, ap, ◌∙◌}
use mathlib.Core.Bool.{◌||◌}
use Rattle.rows.specs.Lists.{pad}
use Rattle.text.specs.Opening.{Form}
use Rattle.text.specs.vocabulary.Replies.{in_reply}
use Rattle.joining.specs.Joins.{node_in}
use Rattle.joining.specs.Written.{form_text}
use Rattle.joining.proofs.SlotLines.{codes-few, codes-fit, node-is, node-given, node-absent}
use Rattle.joining.proofs.lines.node_line.Goals as goal

pub has_node-requires : goal.has_node-requires
has_node-requires c = let a = c.requires.0 in record { forms = a.first; held = a.first-held }

pub has_node-requires-2 : goal.has_node-requires-2
has_node-requires-2 c = let a = c.requires.0 in record { forms = a.second; held = a.second-held }

pub returns-then-not-given : goal.returns-then-not-given
unfolding in_reply pad
returns-then-not-given c =
    let a = c.args in (
      λ fs gs ha hb.
          let given : (c.has_node.result || c.has_node-2.result) ≡ node_in fs a.n || node_in gs a.n = λ i. c.has_node.ensures fs ha i || c.has_node-2.ensures gs hb i in
          ap in_reply (sym (node-absent fs gs a.n (sym given ∙ c.if-not-given.true))),
      omega arith,
    )

pub merge_node-requires : goal.merge_node-requires
merge_node-requires c =
    let a = c.requires.0 in
    (record { forms = a.first; held = a.first-held }, record { forms = a.second; held = a.second-held }, c.requires.2)

pub put_node-length-requires : goal.put_node-length-requires
put_node-length-requires c =
    let a = c.requires.0 in
    let is = c.merge_node.ensures a.first a.second a.first-held a.second-held in
    let few = codes-few a.first a.second c.args.n _ is a.room c.requires.1 c.requires.2 in
    (codes-fit a.first a.second c.args.n _ is c.args.first.now c.args.second.now a.first-held a.second-held few, c.requires.2)

pub returns : goal.returns
unfolding in_reply pad
returns c =
    let a = c.requires.0 in
    let first-is = c.merge_node.ensures a.first a.second a.first-held a.second-held in
    let few = codes-few a.first a.second c.args.n _ first-is a.room c.requires.1 c.requires.2 in (
      λ fs gs ha hb.
          let given : (c.has_node.result || c.has_node-2.result) ≡ node_in fs c.args.n || node_in gs c.args.n = λ i. c.has_node.ensures fs ha i || c.has_node-2.ensures gs hb i in
          let is = c.merge_node.ensures fs gs ha hb in
          c.put_node-length.ensures.put [] refl
          ∙ ap (λ (f : Form). in_reply (form_text f)) (node-is fs gs c.args.n _ is c.args.first.now c.args.second.now ha hb few)
          ∙ ap in_reply (sym (node-given fs gs c.args.n (sym given ∙ c.if-not-given.false))),
      c.put_node-length.ensures.within,
    )
