use Prim.Native.Nat.{◌+◌}
use native.Mathlib.Omega.{arith}
use mathlib.Core.Path.{◌≡◌, refl}
use lib.ListN.{length}
use lib.Seq.{take_all}
use Rattle.text.proofs.ReplyLaws.{puts_none, puts-more, puts-as}
use Rattle.text.proofs.replies.put_text.Goals as goal

pub loop-k-init : goal.loop-k-init
loop-k-init c =
    let a = c.args in
    let there : a.at + 0 ≡ a.at = omega arith in
    (refl, omega arith, rw there (puts_none a.o.now a.at))

pub loop-k-preserved : goal.loop-k-preserved
loop-k-preserved c =
    let l = c.loop-k in
    let a = c.args in
    (refl, omega arith, puts-more a.o.now l.o a.at a.t.now l.k (omega arith) (omega arith) l.invariant.2)

pub returns : goal.returns
returns c =
    let l = c.loop-k in
    let a = c.args in
    let t = a.t.now in
    let whole : l.k ≡ length t = omega arith in
    record { put = puts-as _ _ (take_all (length t) t (omega arith)) (rw whole at l.invariant.2); grown = refl }
