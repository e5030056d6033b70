-- `call_line::judge_pairs` meets its contract: the refusals in the order of the definition.
use native.Mathlib.Omega.{arith}
use mathlib.Core.Path.{ap, ◌∙◌}
use borrow.Author.Tests.{eq-eqb, ne_eqb, lt-ltb, le-ltb}
use Rattle.rows.specs.Limits.{most_pairs}
use Rattle.text.specs.CallLines.{judged_pairs}
use Rattle.text.specs.vocabulary.Groups.{groups_from}
use Rattle.text.specs.declared.Groups.{Groups}
use Rattle.text.proofs.call_line.judge_pairs.Goals as goal

pub returns-then-g-eq0 : goal.returns-then-g-eq0
unfolding judged_pairs groups_from
returns-then-g-eq0 c = λ x e.
    let counted = ap (λ (y : Groups). y.count) e in
    c.into.ensures ∙ rw (← counted, eq-eqb c.args.g.count 0 c.if-g-eq0.true)

pub returns-then-not-g : goal.returns-then-not-g
unfolding judged_pairs groups_from
returns-then-not-g c = λ x e.
    let counted = ap (λ (y : Groups). y.count) e in
    let paired = ap (λ (y : Groups). y.pairs) e in
    let n = c.args.g.count in
    c.into-then-not-g.ensures ∙ rw (← counted, ← paired, ne_eqb n 0 c.if-g-eq0.false, c.if-not-g.true)

pub returns-then-g-gt-MOST_PAIRS : goal.returns-then-g-gt-MOST_PAIRS
unfolding judged_pairs groups_from most_pairs
returns-then-g-gt-MOST_PAIRS c = λ x e.
    let counted = ap (λ (y : Groups). y.count) e in
    let paired = ap (λ (y : Groups). y.pairs) e in
    let n = c.args.g.count in
    c.into-then-g-gt-MOST_PAIRS.ensures ∙ rw (← counted, ← paired, ne_eqb n 0 c.if-g-eq0.false, c.if-not-g.false, lt-ltb 16 n c.if-g-gt-MOST_PAIRS.true)

pub returns : goal.returns
unfolding judged_pairs groups_from most_pairs
returns c = λ x e.
    let counted = ap (λ (y : Groups). y.count) e in
    let paired = ap (λ (y : Groups). y.pairs) e in
    let n = c.args.g.count in
    rw (← counted, ← paired, ne_eqb n 0 c.if-g-eq0.false, c.if-not-g.false, le-ltb 16 n (omega (arith, c.if-g-gt-MOST_PAIRS.false)), c.first_sixteen.ensures x e)
