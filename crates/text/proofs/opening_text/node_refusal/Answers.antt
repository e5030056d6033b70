-- `opening_text::node_refusal` meets its contract: the numbers in the order of the definition.
use native.Mathlib.Omega.{arith}
use mathlib.Core.Bool.{true, false}
use mathlib.Core.Path.{sym, ◌≡◌, ◌∙◌}
use borrow.Author.Tests.{lt-ltb, le-ltb}
use Rattle.rows.proofs.Bools.{and_l}
use Rattle.rows.specs.Codes.{is_node}
use Rattle.rows.specs.Limits.{most_entries, nodes}
use Rattle.rows.specs.Lists.{any}
use Rattle.text.specs.Opening.{form_refusal, gives_node}
use Rattle.text.proofs.PatternLaws.{high-of}
use Rattle.std.proofs.Common.{ap}
use mathlib.Core.Bool.{not}
use Rattle.text.proofs.opening_text.node_refusal.Goals as goal

pub returns-then-not-good : goal.returns-then-not-good
unfolding form_refusal is_node most_entries nodes
returns-then-not-good c =
    record { refused = λ fs es k t. rw (← t.in-range, sym c.is_node.ensures, (ap not c.if-not-good.true)); within = λ z. omega arith }

pub returns-then-is_given : goal.returns-then-is_given
unfolding form_refusal is_node most_entries nodes
returns-then-is_given c =
    let n = c.args.n in record {
      refused = λ fs es k t.
          let named : any (gives_node n) fs ≡ true = sym (k.node n) ∙ sym c.is_given.ensures ∙ c.if-is_given.true in
          rw (← t.in-range, sym c.is_node.ensures, (ap not c.if-not-good.false), named);
      within = λ z. omega arith;
    }

pub returns-then-count-gt-MOST_ENTRIES : goal.returns-then-count-gt-MOST_ENTRIES
unfolding form_refusal is_node most_entries nodes
returns-then-count-gt-MOST_ENTRIES c =
    let s = c.args in record {
      refused = λ fs es k t.
          let named : any (gives_node s.n) fs ≡ false = sym (k.node s.n) ∙ sym c.is_given.ensures ∙ c.if-is_given.false in
          rw (← t.in-range, ← t.counted, sym c.is_node.ensures, (ap not c.if-not-good.false), named, lt-ltb 16 s.count (omega arith));
      within = λ z. omega arith;
    }

pub returns : goal.returns
unfolding form_refusal is_node most_entries nodes
returns c =
    let s = c.args in
    let good = and_l c.is_node.result s.ranged c.if-not-good.false in record {
      refused = λ fs es k t.
          let named : any (gives_node s.n) fs ≡ false = sym (k.node s.n) ∙ sym c.is_given.ensures ∙ c.if-is_given.false in
          rw (← t.in-range, ← t.counted, sym c.is_node.ensures, (ap not c.if-not-good.false), named, le-ltb 16 s.count (omega arith));
      within = λ z. high-of 1 32 s.n (sym c.is_node.ensures ∙ good);
    }
