-- `tests::has_open`: whether a request is found.
use mathlib.Core.Path.{◌∙◌}
use Rattle.calls.proofs.Refusing.{open-told}
use Rattle.calls.proofs.tests.has_open.Goals as goal

pub returns : goal.returns
returns c = λ st h. c.is_some.ensures ∙ open-told st c.args.c h.0 c.open_among.result (c.open_among.ensures.found st h)
