-- `opening::clear_runs` meets its contract: both runs are 0, and the next number of tables of the right length is 1.
use Rattle.rows.specs.Layout.{cleared_processes}
use Rattle.entry.proofs.Entered.{cleared-long, cleared-other}
use Rattle.entry.proofs.opening.clear_runs.Goals as goal

pub returns-then-tables-eq-TABLES : goal.returns-then-tables-eq-TABLES
unfolding cleared_processes
returns-then-tables-eq-TABLES c = record { tables = cleared-long _ _ c.if-tables-eq-TABLES.true c.clear_tables.ensures; processes = c.clear.ensures }

pub returns-else-tables-eq-TABLES : goal.returns-else-tables-eq-TABLES
unfolding cleared_processes
returns-else-tables-eq-TABLES c = record { tables = cleared-other _ _ c.if-tables-eq-TABLES.false c.clear-else-tables-eq-TABLES.ensures; processes = c.clear.ensures }
