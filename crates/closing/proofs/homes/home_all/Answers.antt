use Rattle.changes.specs.vocabulary.Bits.{marks_in}
use Rattle.closing.proofs.HomesAll.{homes-all}
use Rattle.closing.proofs.homes.home_all.Goals as goal

pub returns : goal.returns
returns c = homes-all c.args.t.now c.args.n c.args.ps (marks_in c.args.removed.now) c.home_each.new.ps c.home_each.ensures
