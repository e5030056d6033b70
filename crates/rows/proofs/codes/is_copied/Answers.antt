-- `codes::is_copied` meets its contract: the definition, test by test.
use Rattle.std.proofs.Common.{refl}
use Rattle.rows.specs.Codes.{operation, subdirectory, is_operation, is_subdirectory, is_copied}
use Rattle.rows.proofs.codes.is_copied.Goals as goal

pub returns : goal.returns
unfolding is_copied is_operation is_subdirectory operation subdirectory
returns c = refl
