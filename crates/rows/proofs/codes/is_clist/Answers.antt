-- `codes::is_clist` meets its contract: the definition, test by test.
use Rattle.std.proofs.Common.{refl}
use Rattle.rows.specs.Lists.{between}
use Rattle.rows.specs.Limits.{processes}
use Rattle.rows.specs.Codes.{in_clist, is_clist}
use Rattle.rows.proofs.codes.is_clist.Goals as goal

pub returns : goal.returns
unfolding is_clist between in_clist processes
returns c = refl
