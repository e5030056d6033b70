-- `calling::is_unlisted` meets its contract: the caller, if there is one, is looked up among the records.
use mathlib.Core.Path.{sym, refl}
use Rattle.rows.specs.Lists.{some}
use Rattle.text.specs.Entry.{caller_unlisted}
use Rattle.entry.proofs.calling.is_unlisted.Goals as goal

pub returns : goal.returns
unfolding caller_unlisted some
returns c = λ st same.
    let n = c.caller_of-n in
    let l = c.listed in
    rw (sym n.ensures, same, sym l.ensures) refl
