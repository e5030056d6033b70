-- `feeding::is_going` meets its contract: by the stage.
use mathlib.Core.Path.{sym, ap}
use Rattle.joining.specs.vocabulary.Reading.{is_going}
use Rattle.joining.proofs.feeding.is_going.Goals as goal

pub returns-in-First : goal.returns-in-First
unfolding is_going
returns-in-First c = sym (ap is_going c.in-First.is)

pub returns-in-Second : goal.returns-in-Second
unfolding is_going
returns-in-Second c = sym (ap is_going c.in-Second.is)

pub returns-in-Over : goal.returns-in-Over
unfolding is_going
returns-in-Over c = sym (ap is_going c.in-Over.is)
