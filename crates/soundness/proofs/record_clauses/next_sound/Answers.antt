-- `record_clauses::next_sound` meets its contract: the last word of each column is the newest number.
use mathlib.Core.Path.{◌∙◌}
use Rattle.rows.specs.Sound.{below_next}
use Rattle.rows.specs.vocabulary.Sizes.{NEXT}
use Rattle.rows.proofs.Slots.{represented-next}
use Rattle.soundness.proofs.RecordClauses.{top-row, top-request, below-in-range}
use Rattle.soundness.proofs.record_clauses.next_sound.Goals as goal

pub returns : goal.returns
unfolding below_next
returns c =
    λ st rep e d. rw (c.last_of-row.ensures ∙ top-row rep c.args.n e, c.last_of-request.ensures ∙ top-request rep c.args.m d, represented-next rep)
    (below-in-range st.next st.rows st.requests (rw (represented-next rep) at (c.shared_slice_known-1.given NEXT).fits))
