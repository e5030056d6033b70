-- `lines::slot_line` meets its contract: nodes, then processes, then the end.
use native.Mathlib.Omega.{arith}
use mathlib.Core.Path.{sym, ap, ◌∙◌}
use Rattle.text.specs.vocabulary.Replies.{in_reply}
use Rattle.joining.proofs.SlotLines.{slot-node, slot-process, slot-last}
use Rattle.rows.specs.Lists.{bytes}
use Rattle.text.specs.declared.Reply.{Reply}
use Rattle.joining.proofs.lines.slot_line.Goals as goal

pub node_line-requires : goal.node_line-requires
node_line-requires c = (c.requires.0, omega arith, omega arith)

pub returns-then-k-lt-NODE_SLOTS : goal.returns-then-k-lt-NODE_SLOTS
returns-then-k-lt-NODE_SLOTS c =
    let k = c.args.k in
    (λ fs gs ha hb. c.node_line.ensures.0 fs gs ha hb ∙ ap in_reply (sym (slot-node fs gs k (omega arith))), c.node_line.ensures.1)

pub process_line-requires : goal.process_line-requires
process_line-requires c =
    let a = c.requires.0 in
    (record { forms = a.first; held = a.first-held }, record { forms = a.second; held = a.second-held })

pub returns-then-k-lt-FORM_SLOTS : goal.returns-then-k-lt-FORM_SLOTS
returns-then-k-lt-FORM_SLOTS c =
    let k = c.args.k in
    (λ fs gs ha hb. c.process_line.ensures.0 fs gs ha hb ∙ ap in_reply (sym (slot-process fs gs k (omega arith) (omega arith))), c.process_line.ensures.1)

pub returns : goal.returns
unfolding in_reply bytes
returns c =
    let k = c.args.k in
    (λ fs gs ha hb. c.last_line.ensures ∙ ap in_reply (sym (slot-last fs gs k (omega arith))), rw (ap (λ (r : Reply). r.length) c.last_line.ensures) (omega arith))
