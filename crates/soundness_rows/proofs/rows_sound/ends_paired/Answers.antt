use Rattle.std.proofs.Common.{◌≡◌, suc, ◌+◌, ◌-◌, ◌<◌, length, sym, ◌∙◌, arith}
use Rattle.soundness_rows.proofs.SlotLoops.{tested-more}
use Rattle.soundness_rows.proofs.RowsSound.{no-ends, oldest-tested, ends-tested}
use Rattle.soundness_rows.proofs.rows_sound.ends_paired.Goals as goal

pub returns-then-n-eq0 : goal.returns-then-n-eq0
returns-then-n-eq0 c = λ st rep long named. no-ends st.rows (sym long ∙ c.if-n-eq0.true)

pub loop-i-init : goal.loop-i-init
loop-i-init c =
    let h : 0 < c.args.n = omega (arith, c.if-n-eq0.false) in
    λ st rep long. oldest-tested rep c.row_at-oldest.result c.row_at-oldest.ensures (let g : 0 < length st.rows = omega (arith, h, long) in g)

pub loop-i-preserved : goal.loop-i-preserved
loop-i-preserved c =
    let turn = c.loop-i in
    let r = c.beside-right in
    λ st rep long.
    let h : turn.i + 1 < length st.rows = omega (arith, c.loop-i-test.true, long) in
    tested-more r.result h (turn.invariant st rep long) (r.ensures c.args.t.now st turn.i rep c.row_at-a.ensures c.row_at-b.ensures)

pub returns : goal.returns
returns c =
    λ st rep long named.
    let last = c.loop-i in
    let end : last.i ≡ c.args.n - 1 = omega arith in
    let whole : suc (c.args.n - 1) ≡ length st.rows = omega (arith, c.if-n-eq0.false, long) in
    ends-tested rep named (c.args.n - 1) last.right c.row_at-newest.result c.row_at-newest.ensures whole (rw end at (last.invariant st rep long))
