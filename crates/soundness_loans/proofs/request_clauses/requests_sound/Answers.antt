-- `request_clauses::requests_sound` meets its contract: the clauses, in another order.
use mathlib.Core.List.{List}
use mathlib.Core.Path.{ap, sym, ◌∙◌}
use Rattle.rows.specs.declared.Process.{Process}
use Rattle.rows.specs.Lists.{all}
use Rattle.soundness_loans.specs.vocabulary.Clauses.{request_right}
use Rattle.soundness_loans.proofs.RequestClausesLoops.{requests-joined}
use Rattle.soundness_loans.proofs.request_clauses.requests_sound.Goals as goal

pub returns : goal.returns
returns c =
    λ st rep ps e d.
    let right = c.requests_right-right.ensures st rep d ∙ ap (λ (l : List Process). all (request_right l) st.requests) (sym ps) in
    rw (c.numbers_apart-apart.ensures st rep e d, right, c.ports_right-ports.ensures st rep e d) (requests-joined st)
