-- `feeding::after_line` meets its contract: by what the line does.
use mathlib.Core.Path.{ap, ◌∙◌}
use Rattle.std.specs.Prelude.{Ok}
use Rattle.joining.proofs.ReadOn.{after-taken, after-last, after-refused}
use Rattle.joining.proofs.feeding.after_line.Goals as goal

pub returns-in-Ok-Some : goal.returns-in-Ok-Some
returns-in-Ok-Some c = let a = c.args in let h = c.in-Ok-Some in after-taken a.stage a.number a.before a.step a.ended h.given (h.is ∙ ap Ok (rw h.is at h.field-0-is))

pub returns-in-Ok-None : goal.returns-in-Ok-None
returns-in-Ok-None c = let a = c.args in let h = c.in-Ok-None in after-last a.stage a.number a.before a.step a.ended (h.is ∙ ap Ok (rw h.is at h.field-0-is))

pub returns-in-Err : goal.returns-in-Err
returns-in-Err c = let a = c.args in rw c.into.ensures (after-refused a.stage a.number a.before a.step a.ended c.in-Err.refusal c.in-Err.is)
