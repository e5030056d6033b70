-- What std's `fill` says of the part, and the words around it stay.
use Rattle.std.proofs.Common.{◌≡◌, ℕ, ◌-◌, length, take, drop, arith, length-drop, length-take-le}
use Rattle.changes.proofs.Keep.{cleared-filled}
use Rattle.changes.proofs.clear.ClearOnColumn.on.Goals as goal

pub returns : goal.returns
returns c =
    let r = c.args.self.now in
    let l = c.args.column.now in
    let w : ℕ = r.to - r.from in
    let long : length (take w (drop r.from l)) ≡ w = length-take-le w (drop r.from l) (omega (arith, length-drop r.from l)) in
    cleared-filled r.from r.to l c.fill.new.self c.requires.0 c.requires.1 (rw long at (c.fill.ensures.after (λ y e. e)))
