-- A store in the column of the item. Assumes nothing.
use Prim.Native.Nat.{ℕ}
use native.Mathlib.Omega.{arith}
use mathlib.Core.Path.{subst}
use lib.ListN.{set, length-set}
use Rattle.rows.specs.Limits.{row_slots, request_slots}
use Rattle.rows.specs.Layout.{row_columns, requests_at}
use Rattle.rows.specs.vocabulary.Represents.{Represents, change_request}
use Rattle.changes.specs.vocabulary.Changes.{item_cleared}
use Rattle.changes.proofs.Changes.{item-cleared}
use Rattle.changes.proofs.change.clear_item.Goals as goal

pub shape_of-t : goal.shape_of-t
shape_of-t c = simp length-set

pub returns : goal.returns
unfolding row_slots request_slots row_columns requests_at
returns c =
    let t = c.args.t.now in
    let k = c.args.k in record {
      represents = (λ st q l e.
          subst (λ (n : ℕ). Represents (set t n 0) (change_request q (item_cleared k) st)) (omega arith) (item-cleared q k c.requires.2 st t c.args.j l e));
      long = simp length-set c.requires.0;
    }
