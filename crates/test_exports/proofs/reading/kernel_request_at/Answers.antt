-- `reading::kernel_request_at` meets its contract: the fields of what is read, where length and slot fit.
use native.Mathlib.Omega.{arith}
use mathlib.Core.Path.{refl, ap}
use Rattle.rows.specs.declared.Request.{Request}
use Rattle.rows.specs.Layout.{words_of_request, request_at}
use Rattle.test_exports.specs.vocabulary.Exports.{request_of_words}
use Rattle.test_exports.proofs.reading.kernel_request_at.Goals as goal

pub returns-then-t-ne-TABLES : goal.returns-then-t-ne-TABLES
returns-then-t-ne-TABLES c = record { read = (λ fits. absurd (c.if-t-ne-TABLES.true fits.0)); other = (λ not. refl) }

pub returns-then-j-ge-REQUESTS : goal.returns-then-j-ge-REQUESTS
returns-then-j-ge-REQUESTS c = record { read = (λ fits. absurd (omega (arith, fits.1, c.if-j-ge-REQUESTS.true))); other = (λ not. refl) }

pub returns : goal.returns
unfolding request_at
returns c =
    record { read = (λ fits. ap (λ (v : Request). words_of_request (request_of_words (words_of_request v))) c.request_at-v.ensures); other = (λ not. absurd (not (c.if-t-ne-TABLES.false, c.if-j-ge-REQUESTS.false))) }
