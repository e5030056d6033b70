-- `row_clauses::object_in_range` meets its contract: the definition, kind by kind.
use Rattle.std.proofs.Common.{refl}
use Rattle.rows.specs.Limits.{greatest_operation}
use Rattle.rows.specs.Codes.{operation, subdirectory, client_end, server_end, is_operation, is_subdirectory, is_client, is_server, is_node}
use Rattle.rows.specs.Sound.{object_in_range}
use Rattle.soundness_rows.proofs.row_clauses.object_in_range.Goals as goal

pub returns : goal.returns
unfolding object_in_range is_operation is_subdirectory is_client is_server operation subdirectory client_end server_end greatest_operation is_node
returns c = rw (c.listed-manager.ensures, c.is_node-node.ensures, c.follows-after.ensures) refl
