-- The requests' columns are lent as one part, and come back compacted.
use borrow.Author.Rules.{rules}
use native.Mathlib.Omega.{arith}
use Prim.Native.Nat.{ℕ}
use mathlib.Core.List.{List}
use mathlib.Core.Path.{ap, ◌∙◌}
use lib.ListN.{take, drop}
use Rattle.rows.specs.Limits.{row_slots, request_slots}
use Rattle.rows.specs.Layout.{row_columns, request_columns, requests_at}
use Rattle.changes.specs.vocabulary.Bits.{marks_in}
use Rattle.changes.specs.vocabulary.Marks.{on_parts}
use Rattle.changes.proofs.Keep.{compacted-same}
use Rattle.changes.proofs.Lefts.{gones-lefts}
use Rattle.changes.proofs.Removed.{requests-removed}
use Rattle.changes.proofs.remove.remove_requests.Goals as goal

pub overflow_sub-kept : goal.overflow_sub-kept
overflow_sub-kept c =
    let packed = c.request_bits-packed.result in
    let m = c.count_requests-m.result in
    omega (arith, c.count.ensures, gones-lefts (marks_in packed) m)

pub compact_columns-requires : goal.compact_columns-requires
compact_columns-requires c =
    let run = c.next_marked-first.ensures in
    let packed = c.request_bits-packed.result in
    let m = c.count_requests-m.result in
    let kept = gones-lefts (marks_in packed) m in
    record { sizes = (search rules, run.within, search rules, search rules); clear = run.passed; kept = omega (arith, kept, c.count.ensures) }

pub returns : goal.returns
unfolding request_slots request_columns requests_at row_columns row_slots
returns c = λ st f rep marks.
    let called = c.compact_columns in
    let packed = c.request_bits-packed in
    let counted = c.count_requests-m in
    let t = c.args.t.now in
    let same = compacted-same c.args.marks.now (marks_in packed.result) counted.result packed.ensures in
    requests-removed st f t counted.result c.args.marks.now called.new.part
    (called.ensures ∙ ap (λ (g : List ℕ → List ℕ). on_parts g 128 8 (take 1024 (drop 10240 t))) same) rep (counted.ensures.counted st rep) marks
