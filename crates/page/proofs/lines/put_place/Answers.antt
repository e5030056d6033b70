-- `lines::put_place` meets its contract: an arm a sort of place.
use borrow.Author.Rules.{rules}
use borrow.Author.Tests.{ne_eqb}
use mathlib.Core.Path.{sym, ◌∙◌}
use Rattle.rows.specs.Lists.{bytes}
use Rattle.rows.specs.Codes.{is_system, with_system, owner_of}
use Rattle.page.specs.Page.{place_text}
use Rattle.page.proofs.ColumnLaws.{node-short, clist-owner}
use Rattle.page.proofs.lines.put_place.Goals as goal

pub put_named-requires : goal.put_named-requires
put_named-requires c =
    let short = node-short _ (sym c.is_node.ensures ∙ c.if-is_node.true) in
    search rules

pub returns-then-is_node : goal.returns-then-is_node
unfolding place_text is_system with_system owner_of bytes
returns-then-is_node c = rw (sym c.is_node.ensures ∙ c.if-is_node.true) c.put_named.ensures

pub overflow_sub-place : goal.overflow_sub-place
overflow_sub-place c =
    let owner = clist-owner _ (sym c.is_clist.ensures ∙ c.if-is_clist.true) in
    search rules

pub put_named-requires-then-is_clist : goal.put_named-requires-then-is_clist
put_named-requires-then-is_clist c =
    let owner = clist-owner _ (sym c.is_clist.ensures ∙ c.if-is_clist.true) in
    search rules

pub returns-then-is_clist : goal.returns-then-is_clist
unfolding place_text is_system with_system owner_of bytes
returns-then-is_clist c = rw (sym c.is_node.ensures ∙ c.if-is_node.false, sym c.is_clist.ensures ∙ c.if-is_clist.true) c.put_named-then-is_clist.ensures

pub returns-then-place-eq-THE_SYSTEM : goal.returns-then-place-eq-THE_SYSTEM
unfolding place_text is_system with_system owner_of bytes
returns-then-place-eq-THE_SYSTEM c =
    rw (sym c.is_node.ensures ∙ c.if-is_node.false, sym c.is_clist.ensures ∙ c.if-is_clist.false, c.if-place-eq-THE_SYSTEM.true) (rw (← c.requires) c.put_left.ensures)

pub returns : goal.returns
unfolding place_text is_system with_system owner_of bytes
returns c =
    rw (sym c.is_node.ensures ∙ c.if-is_node.false, sym c.is_clist.ensures ∙ c.if-is_clist.false, ne_eqb _ 200 c.if-place-eq-THE_SYSTEM.false) (rw (← c.requires) c.put_left-2.ensures)
