-- A store in column fetched. Assumes nothing.
use Prim.Native.Nat.{ℕ}
use native.Mathlib.Omega.{arith}
use mathlib.Core.Path.{subst}
use lib.ListN.{set, length-set}
use Rattle.rows.specs.Limits.{row_slots, request_slots}
use Rattle.rows.specs.Layout.{row_columns, requests_at}
use Rattle.rows.specs.vocabulary.Represents.{Represents, change_request}
use Rattle.changes.specs.vocabulary.Changes.{as_fetched}
use Rattle.changes.proofs.Changes.{fetched-set}
use Rattle.changes.proofs.change.set_fetched.Goals as goal

pub shape_of-t : goal.shape_of-t
shape_of-t c = simp length-set

pub returns : goal.returns
unfolding row_slots request_slots row_columns requests_at
returns c = record { represents = (λ st q l e. subst (λ (n : ℕ). Represents (set c.args.t.now n 1) (change_request q as_fetched st)) (omega arith) (fetched-set q st c.args.t.now c.args.j l e)); long = simp length-set c.requires.0 }
