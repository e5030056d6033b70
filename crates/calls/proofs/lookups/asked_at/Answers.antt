-- `lookups::asked_at`: the request open on the port that the end names.
use mathlib.Core.Path.{ap, ◌∙◌}
use Prim.Native.Nat.{ℕ}
use Rattle.rows.specs.vocabulary.Slots.{found_slot, open_slot}
use Rattle.rows.proofs.Slots.{row-words}
use Rattle.calls.proofs.lookups.asked_at.Goals as goal

pub returns : goal.returns
returns c =
    let a = c.args in record { within = c.open_among.ensures.within; found = (λ st e h at. c.open_among.ensures.found st h ∙ ap (λ (k : ℕ). found_slot (open_slot st.requests k)) (row-words h.0 e a.i at).object) }
