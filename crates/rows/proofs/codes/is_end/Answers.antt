-- `codes::is_end` meets its contract: the definition, test by test.
use Rattle.std.proofs.Common.{refl}
use Rattle.rows.specs.Codes.{client_end, server_end, is_client, is_server, is_end}
use Rattle.rows.proofs.codes.is_end.Goals as goal

pub returns : goal.returns
unfolding is_end is_client is_server client_end server_end
returns c = refl
