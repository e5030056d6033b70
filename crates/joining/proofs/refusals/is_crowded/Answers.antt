use native.Mathlib.Omega.{arith}
use mathlib.Core.Path.{refl, sym, ap, ◌∙◌}
use lib.Dec.{ltb}
use lib.ListN.{length, length-map}
use borrow.Author.Tests.{lt-ltb, le-ltb}
use Rattle.rows.specs.Limits.{nodes, most_entries}
use Rattle.text.specs.vocabulary.Sizes.{NODES}
use Rattle.joining.specs.declared.Codes.{Codes}
use Rattle.joining.specs.Joins.{entries_joined, node_crowded}
use Rattle.joining.specs.vocabulary.Directories.{ENTRIES, entry_code}
use Rattle.joining.specs.vocabulary.Merged.{in_codes}
use Rattle.joining.proofs.NumbersFrom.{any_next, any-stops, any-ends}
use Rattle.joining.proofs.refusals.is_crowded.Goals as goal

pub loop-n-init : goal.loop-n-init
unfolding node_crowded nodes most_entries
loop-n-init c = (omega arith, omega arith, λ fs gs ha hb. refl)

pub returns-then-c-gt-MOST_ENTRIES : goal.returns-then-c-gt-MOST_ENTRIES
unfolding in_codes
returns-then-c-gt-MOST_ENTRIES c =
    let l = c.loop-n in
    λ fs gs ha hb.
    let count = ap (λ (x : Codes). x.count) (c.merge_node-c.ensures fs gs ha hb) ∙ length-map (entries_joined fs gs l.n) entry_code in
    sym (any-stops (λ m. ltb ENTRIES (length (entries_joined fs gs m))) l.n NODES (omega arith) (lt-ltb ENTRIES (length (entries_joined fs gs l.n)) (omega arith))) ∙ l.invariant.2 fs gs ha hb

pub loop-n-preserved : goal.loop-n-preserved
unfolding in_codes
loop-n-preserved c =
    let l = c.loop-n in (
      omega arith,
      omega arith,
      λ fs gs ha hb.
          let count = ap (λ (x : Codes). x.count) (c.merge_node-c.ensures fs gs ha hb) ∙ length-map (entries_joined fs gs l.n) entry_code in
          sym (any_next (λ m. ltb ENTRIES (length (entries_joined fs gs m))) l.n NODES (omega arith) (le-ltb ENTRIES (length (entries_joined fs gs l.n)) (omega arith))) ∙ l.invariant.2 fs gs ha hb,
    )

pub returns : goal.returns
returns c =
    let l = c.loop-n in
    λ fs gs ha hb. sym (any-ends (λ m. ltb ENTRIES (length (entries_joined fs gs m))) l.n NODES (omega arith)) ∙ l.invariant.2 fs gs ha hb
