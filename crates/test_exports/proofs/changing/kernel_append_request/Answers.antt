-- `changing::kernel_append_request` meets its contract: where the length and the slot fit, the change's own; else nothing changes.
use native.Mathlib.Omega.{arith}
use mathlib.Core.Path.{refl, subst}
use Rattle.changes.specs.vocabulary.Changes.{AddsRequest}
use Rattle.test_exports.proofs.changing.kernel_append_request.Goals as goal

pub returns-then-t-ne-TABLES : goal.returns-then-t-ne-TABLES
returns-then-t-ne-TABLES c = record { represents = (λ fits. absurd (c.if-t-ne-TABLES.true fits.0)); other = (λ not. refl) }

pub returns-then-count-ge-REQUESTS : goal.returns-then-count-ge-REQUESTS
returns-then-count-ge-REQUESTS c = record { represents = (λ fits. absurd (omega (arith, fits.1, c.if-count-ge-REQUESTS.true))); other = (λ not. refl) }

pub returns : goal.returns
returns c =
    let t = c.args.t.now in
    let count = c.args.count in record { represents = (λ fits. subst (AddsRequest t c.append_request.new.t count) c.request_of-request.ensures c.append_request.ensures.represents); other = (λ not. absurd (not (c.if-t-ne-TABLES.false, c.if-count-ge-REQUESTS.false))) }
