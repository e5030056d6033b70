-- `changing::kernel_append_row` meets its contract: where the length, the slot and the sources fit, the change's own; else nothing changes.
use native.Mathlib.Omega.{arith}
use Prim.Native.Nat.{◌≤◌}
use mathlib.Core.Path.{refl, ap, subst}
use Rattle.rows.specs.declared.Row.{Row}
use Rattle.changes.specs.vocabulary.Changes.{AddsRow}
use Rattle.test_exports.proofs.changing.kernel_append_row.Goals as goal

pub returns-then-t-ne-TABLES : goal.returns-then-t-ne-TABLES
returns-then-t-ne-TABLES c = record { represents = (λ fits. absurd (c.if-t-ne-TABLES.true fits.0)); other = (λ not. refl) }

pub returns-then-count-ge-ROWS : goal.returns-then-count-ge-ROWS
returns-then-count-ge-ROWS c = record { represents = (λ fits. absurd (omega (arith, fits.1, c.if-count-ge-ROWS.true))); other = (λ not. refl) }

pub returns-then-count-row : goal.returns-then-count-row
returns-then-count-row c =
    let row = c.row_of-row.ensures in
    record { represents = (λ fits. absurd (omega (arith, fits.2, ap (λ (r : Row). r.source) row, c.if-count-row.true))); other = (λ not. refl) }

pub returns-then-count-row-2 : goal.returns-then-count-row-2
returns-then-count-row-2 c =
    let row = c.row_of-row.ensures in
    record { represents = (λ fits. absurd (omega (arith, fits.3, ap (λ (r : Row). r.via) row, c.if-count-row-2.true))); other = (λ not. refl) }

pub returns : goal.returns
returns c =
    let t = c.args.t.now in
    let count = c.args.count in
    let same = c.row_of-row.ensures in record {
      represents = (λ fits. subst (AddsRow t c.append_row.new.t count) same c.append_row.ensures.represents);
      other = (λ not. absurd (not (
        c.if-t-ne-TABLES.false,
        c.if-count-ge-ROWS.false,
        subst (λ (w : Row). w.source ≤ count) same c.if-count-row.false,
        subst (λ (w : Row). w.via ≤ count) same c.if-count-row-2.false,
      )));
    }
