-- `lookups::held_by`: the row in the place of the c-list.
use mathlib.Core.Path.{ap, ◌∙◌}
use Prim.Native.Nat.{ℕ}
use Rattle.calls.specs.vocabulary.Lookups.{slot_in}
use Rattle.calls.proofs.lookups.held_by.Goals as goal

pub returns : goal.returns
returns c =
    let a = c.args in
    record { within = c.row_in.ensures.within; found = (λ st h few. c.row_in.ensures.found st h ∙ ap (λ (k : ℕ). slot_in st k a.e) (c.clist-place.ensures few)) }
