use Rattle.std.proofs.Common.{◌≡◌, ℕ, ◌+◌, ◌-◌, ◌*◌, take, drop, sym, ◌∙◌, arith}
use lib.Seq.{take-add}
use Rattle.std.proofs.lemmas.List.Folds.{list_any-append}
use Rattle.rows.proofs.find.skip_eights.Goals as goal

pub loop-k-preserved : goal.loop-k-preserved
loop-k-preserved g c =
    let test = λ (y : g.row.T.Denot). g.T.PartialEq.eq y c.args.x.now in
    let xs = c.args.xs.now in
    let at : ℕ = c.loop-k.k * 8 in
    let next : (c.loop-k.k + 1) * 8 ≡ at + 8 = omega arith in
    let eight : at + 8 - at ≡ 8 = omega arith in
    let none = rw eight at (sym c.contains.ensures.value ∙ c.if-contains.false) in
    rw (next, take-add at 8 xs, list_any-append test (take at xs) (take 8 (drop at xs)), c.loop-k.invariant) none
