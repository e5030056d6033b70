-- `opening_text::process_refusal` meets its contract: the numbers in the order of the definition.
use native.Mathlib.Omega.{arith}
use mathlib.Core.Bool.{true, false}
use mathlib.Core.Path.{sym, ◌≡◌, ◌∙◌}
use Rattle.rows.proofs.Bools.{and_l}
use Rattle.rows.specs.Codes.{is_node}
use Rattle.rows.specs.Limits.{processes}
use Rattle.rows.specs.Lists.{any}
use Rattle.text.specs.CallLines.{is_process}
use Rattle.text.specs.Opening.{form_refusal, gives_process}
use Rattle.text.proofs.PatternLaws.{high-of}
use Rattle.std.proofs.Common.{ap}
use mathlib.Core.Bool.{not}
use Rattle.text.proofs.opening_text.process_refusal.Goals as goal

pub returns-then-not-good : goal.returns-then-not-good
unfolding form_refusal is_node is_process processes
returns-then-not-good c =
    record { refused = λ fs k. rw (sym c.is_process.ensures, sym c.is_node.ensures, (ap not c.if-not-good.true)); within = λ z. omega arith }

pub returns-then-is_given : goal.returns-then-is_given
unfolding form_refusal is_node is_process processes
returns-then-is_given c =
    let p = c.args.p in record {
      refused = λ fs k.
          let named : any (gives_process p) fs ≡ true = sym (k.process p) ∙ sym c.is_given.ensures ∙ c.if-is_given.true in
          rw (sym c.is_process.ensures, sym c.is_node.ensures, (ap not c.if-not-good.false), named);
      within = λ z. omega arith;
    }

pub returns : goal.returns
unfolding form_refusal is_node is_process processes
returns c =
    let p = c.args.p in
    let good = and_l c.is_process.result c.is_node.result c.if-not-good.false in record {
      refused = λ fs k.
          let named : any (gives_process p) fs ≡ false = sym (k.process p) ∙ sym c.is_given.ensures ∙ c.if-is_given.false in
          rw (sym c.is_process.ensures, sym c.is_node.ensures, (ap not c.if-not-good.false), named);
      within = λ z. high-of 1 64 p (sym c.is_process.ensures ∙ good);
    }
