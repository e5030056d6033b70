-- `patterns::read_form` meets its contract: what is left of the pattern decides the whole.
use mathlib.Core.Path.{◌≡◌}
use lib.ListN.{drop}
use Rattle.text.specs.Patterns.{pieces, began}
use Rattle.text.proofs.patterns.read_form.Given as goal

abbrev pub invariant-loop-p : goal.invariant-loop-p
invariant-loop-p l = pieces l.s l.r (drop l.p-index l.t) ≡ pieces l.s (began l.at) l.t
