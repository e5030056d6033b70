-- `print_page`: each turn writes a row at least, and what is written has room.
use Rattle.std.proofs.Common.{arith, length}
use Rattle.rows.specs.Layout.{rows_in}
use Rattle.page.proofs.PageLaws.{fits}
use Rattle.holders.proofs.print_page.Goals as goal

pub write_out-requires : goal.write_out-requires
write_out-requires g c =
    let fit = (fits (rows_in c.args.tables.now) c.loop-from.from (length c.loop-from.out)).within in
    let count = c.write_lines-n.ensures.count in
    let same = c.write_lines-n.auto.out in
    omega (arith, fit, count, same)

pub loop-from-smaller : goal.loop-from-smaller
loop-from-smaller g c =
    let l = c.loop-from in
    let fit = fits (rows_in c.args.tables.now) l.from (length l.out) in
    let few = fit.few in
    let count = c.write_lines-n.ensures.count in
    let counted = c.rows_in-rows.ensures.counted in
    let most = c.rows_in-rows.ensures.within in
    let more = c.loop-from-test.true in
    let wide = c.requires.1 in
    let same = l.invariant in
    let one = fit.some (omega (arith, more, counted)) (omega (arith, wide, same)) in
    omega (arith, few, count, counted, more, one)
