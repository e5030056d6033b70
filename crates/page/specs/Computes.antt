-- Made by tools/computes: to unfold `computes` is to unfold every definition of this crate.

unfoldable pub computes : Unit {0}
unfolding Rattle.page.specs.Page.spaces Rattle.page.specs.Page.left_in Rattle.page.specs.Page.right_in Rattle.page.specs.Page.kind_text Rattle.page.specs.Page.place_text Rattle.page.specs.Page.shown Rattle.page.specs.Page.line_of Rattle.page.specs.Page.page_of Rattle.page.specs.Page.in_table_order Rattle.page.specs.Page.page Rattle.page.specs.Page.lines_from Rattle.page.specs.ReadBack.columns Rattle.page.specs.ReadBack.worth Rattle.page.specs.ReadBack.number_in Rattle.page.specs.ReadBack.kind_in Rattle.page.specs.ReadBack.place_in Rattle.page.specs.ReadBack.fields_of Rattle.page.specs.ReadBack.read_back
computes = tt
