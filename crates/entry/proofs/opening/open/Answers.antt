-- `opening::open` meets its contract: both runs are cleared; `(no 1 0)` for a run of another length, else what the text is answered.
use Rattle.entry.proofs.Entered.{tables-off, records-off, cleared-empty, replies-lengths, replies-accepted, replies-refused}
use Rattle.entry.proofs.opening.open.Goals as goal

pub returns-then-tables-ne-TABLES : goal.returns-then-tables-ne-TABLES
returns-then-tables-ne-TABLES c =
    let z = c.clear_runs in
    replies-lengths _ _ _ _ _ _ (z.ensures.tables, z.ensures.processes) (tables-off _ _ _ _ (z.ensures.tables, z.ensures.processes) c.if-tables-ne-TABLES.true) c.print_opening.ensures

pub returns-then-processes-ne-RECORDS : goal.returns-then-processes-ne-RECORDS
returns-then-processes-ne-RECORDS c =
    let z = c.clear_runs in
    replies-lengths _ _ _ _ _ _ (z.ensures.tables, z.ensures.processes) (records-off _ _ _ _ (z.ensures.tables, z.ensures.processes) c.if-processes-ne-RECORDS.true) c.print_opening-then-processes-ne-RECORDS.ensures

pub read_opening-requires : goal.read_opening-requires
read_opening-requires c =
    let z = c.clear_runs in
    let a = c.if-tables-ne-TABLES.false in
    let b = c.if-processes-ne-RECORDS.false in
    record { sizes = (a, b); empty = cleared-empty _ _ _ _ (z.ensures.tables, z.ensures.processes) a b }

pub returns-in-Ok : goal.returns-in-Ok
returns-in-Ok c =
    let z = c.clear_runs in
    let o = c.in-Ok in
    replies-accepted _ _ _ _ _ _ _ _ (z.ensures.tables, z.ensures.processes) c.if-tables-ne-TABLES.false c.if-processes-ne-RECORDS.false o.ensures.verdict o.ensures.written c.print_opening-in-Ok.ensures

pub returns-in-Err : goal.returns-in-Err
returns-in-Err c =
    let z = c.clear_runs in
    let o = c.in-Err in
    replies-refused _ _ _ _ _ _ _ o.refused _ (z.ensures.tables, z.ensures.processes) c.if-tables-ne-TABLES.false c.if-processes-ne-RECORDS.false o.ensures.verdict o.ensures.written c.print_opening-in-Err.ensures
