-- `find::leading_in` meets its contract: std's count of what comes before the first 0 is the definition's.
use Rattle.std.proofs.Common.{◌∙◌}
use Rattle.rows.proofs.Searches.{leading-first}
use Rattle.rows.proofs.find.leading_in.Goals as goal

pub returns-clause-counted : goal.returns-clause-counted
returns-clause-counted c = c.before_first.ensures.counted ∙ leading-first c.args.column.now
