-- `row_clauses::sources_right` meets its contract: the three tests.
use Rattle.std.proofs.Common.{refl}
use Rattle.soundness_rows.specs.vocabulary.Clauses.{by_sources}
use Rattle.soundness_rows.proofs.row_clauses.sources_right.Goals as goal

pub returns : goal.returns
unfolding by_sources
returns c =
    λ y rs h p.
    rw (c.source_right-right.ensures y rs h, c.depth_right-depth.ensures y rs h, c.copy_matches-copy.ensures y rs h p) refl
