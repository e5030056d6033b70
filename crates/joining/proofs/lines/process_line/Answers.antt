-- `lines::process_line` meets its contract: that of the process, or nothing.
use native.Mathlib.Omega.{arith}
use mathlib.Core.List.{[]}
use mathlib.Core.Path.{refl, sym, ap, ◌∙◌}
use borrow.Author.Tests.{le-ltb, lt-ltb}
use Rattle.rows.specs.Lists.{pad}
use Rattle.text.specs.vocabulary.Replies.{in_reply}
use Rattle.text.specs.Opening.{process_form}
use Rattle.joining.specs.Written.{form_text}
use Rattle.joining.proofs.MergedNodes.{joined-given}
use Rattle.joining.proofs.SlotLines.{process-given, process-absent}
use Rattle.joining.proofs.lines.process_line.Goals as goal

pub returns-then-n-eq0 : goal.returns-then-n-eq0
unfolding in_reply pad
returns-then-n-eq0 c =
    let a = c.args in (
      λ fs gs ha hb.
          let is = c.merge_process-n.ensures fs gs ha hb in
          ap in_reply (sym (process-absent fs gs a.p (sym (joined-given a.first.now a.second.now fs gs ha hb a.p _ is) ∙ le-ltb 0 c.merge_process-n.result (omega arith)))),
      omega arith,
    )

pub returns : goal.returns
unfolding in_reply pad
returns c =
    let a = c.args in
    let n = c.merge_process-n.result in (
      λ fs gs ha hb.
          let is = c.merge_process-n.ensures fs gs ha hb in
          let given = sym (joined-given a.first.now a.second.now fs gs ha hb a.p n is) ∙ lt-ltb 0 n (omega arith) in
          c.put_process-length.ensures.put [] refl ∙ ap (λ m. in_reply (form_text (process_form a.p m))) is ∙ ap in_reply (sym (process-given fs gs a.p given)),
      c.put_process-length.ensures.within,
    )
