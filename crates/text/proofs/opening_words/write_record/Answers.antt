-- `opening_words::write_record` meets its contract: three stores.
use Prim.Native.Nat.{◌-◌}
use native.Mathlib.Omega.{arith}
use lib.ListN.{length-set}
use Rattle.text.specs.vocabulary.Written.{at_home}
use Rattle.text.proofs.WrittenLaws.{record-set}
use Rattle.text.proofs.opening_words.write_record.Goals as goal

pub bounds-p-at-2 : goal.bounds-p-at-2
bounds-p-at-2 c = simp length-set (omega arith)

pub bounds-p-at-3 : goal.bounds-p-at-3
bounds-p-at-3 c = simp length-set (omega arith)

pub returns : goal.returns
returns c =
    let a = c.args in
    record { set = λ ps e. rw e (record-set ps (a.q - 1) (at_home a.node)); long = simp length-set c.requires.0 }
