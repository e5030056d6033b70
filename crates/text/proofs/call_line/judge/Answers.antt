-- `call_line::judge` meets its contract: the refusals in the order of the definition.
use native.Mathlib.Omega.{arith}
use mathlib.Core.Path.{ap, sym, ◌∙◌}
use lib.ListN.{length-map}
use borrow.Author.Tests.{lt-ltb, le-ltb}
use Rattle.rows.specs.Limits.{most_items}
use Rattle.text.specs.CallLines.{item_of, judged}
use Rattle.text.specs.vocabulary.Groups.{groups_from}
use Rattle.text.specs.declared.Groups.{Groups}
use Rattle.text.proofs.GroupLaws.{items-ranged, items-rows}
use Rattle.std.proofs.Common.{ap}
use mathlib.Core.Bool.{not}
use Rattle.text.proofs.call_line.judge.Goals as goal

pub returns-then-not-good : goal.returns-then-not-good
unfolding judged groups_from most_items
returns-then-not-good c =
    λ x e.
    let good = ap (λ (y : Groups). y.items) e in
    c.into.ensures ∙ rw (items-ranged x.groups, ← good, sym c.is_process.ensures, sym c.is_number.ensures, (ap not c.if-not-good.true))

pub returns-then-not-g : goal.returns-then-not-g
unfolding judged groups_from most_items
returns-then-not-g c =
    λ x e.
    let good = ap (λ (y : Groups). y.items) e in
    let distinct-rows = ap (λ (y : Groups). y.apart) e in
    c.into-then-not-g.ensures ∙ rw (items-ranged x.groups, ← good, items-rows x.groups, ← distinct-rows, sym c.is_process.ensures, sym c.is_number.ensures, (ap not c.if-not-good.false), c.if-not-g.true)

pub returns-then-g-gt-MOST_ITEMS : goal.returns-then-g-gt-MOST_ITEMS
unfolding judged groups_from most_items
returns-then-g-gt-MOST_ITEMS c =
    let a = c.args in
    λ x e.
    let good = ap (λ (y : Groups). y.items) e in
    let distinct-rows = ap (λ (y : Groups). y.apart) e in
    let counted = ap (λ (y : Groups). y.count) e in
    let many = lt-ltb 4 a.g.count (omega arith) in
    rw (items-ranged x.groups, ← good, items-rows x.groups, ← distinct-rows, length-map x.groups item_of, ← counted, sym c.is_process.ensures, sym c.is_number.ensures, (ap not c.if-not-good.false), c.if-not-g.false, many)

pub returns : goal.returns
unfolding judged groups_from most_items
returns c =
    let a = c.args in
    λ x e.
    let good = ap (λ (y : Groups). y.items) e in
    let distinct-rows = ap (λ (y : Groups). y.apart) e in
    let counted = ap (λ (y : Groups). y.count) e in
    let few = le-ltb 4 a.g.count (omega arith) in
    let items = c.first_four.ensures x e in
    rw (items-ranged x.groups, ← good, items-rows x.groups, ← distinct-rows, length-map x.groups item_of, ← counted, sym c.is_process.ensures, sym c.is_number.ensures, (ap not c.if-not-good.false), c.if-not-g.false, few, items)
