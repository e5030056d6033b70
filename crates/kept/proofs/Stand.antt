-- Rows as the rules of the calls name them: held rows, copies, depths.
use Prim.Native.Nat.{ℕ}
use mathlib.Core.Bool.{true, false, ◌&&◌}
use mathlib.Core.List.{List}
use mathlib.Core.Path.{◌≡◌}
use mathlib.Core.Logic.{⊎_elim}
use lib.Dec.{leb, eqb}
use borrow.Author.Tests.{eq-eqb, ltb-false, le-leb}
use Rattle.rows.specs.declared.Row.{Row}
use Rattle.rows.specs.declared.Process.{Process}
use Rattle.rows.specs.Lists.{member, between}
use Rattle.rows.specs.Limits.{nodes, greatest_operation, greatest_depth}
use Rattle.rows.specs.Codes.{is_operation, is_subdirectory, is_client, is_server, is_end, is_copied, in_clist}
use Rattle.rows.specs.Tables.{State, row_of, is_listed, numbers, depth_over}
use Rattle.rows.specs.Sound.{object_in_range, depth_right, has_right_depth}
use Rattle.rows.proofs.Bools.{clash, and_l, and_i, or_cases, or-fl, or-fr, or_map, not_f}
use Rattle.tables.proofs.SoundFacts.{clist-there}
use Rattle.rows.proofs.Places.{copied-no-end}
use Rattle.calls.specs.Rules.{not_held, too_deep, copy_of}

-- a held row is there
pub held-there : (st : State) (p e : ℕ) → not_held st p e ≡ false → member e (numbers st.rows) ≡ true
unfolding not_held
held-there st p e h = clist-there st.rows p e (not_f (eqb (row_of st.rows e).place (in_clist p)) h)

-- a copy of an operation or a subdirectory names what the row names
pub copy-object : (ps : List Process) (r : Row) (n rights place source via depth q : ℕ) → is_copied r.kind ≡ true → object_in_range ps r ≡ true
    → object_in_range ps (copy_of r n rights place source via depth q) ≡ true
unfolding object_in_range copy_of is_end
copy-object ps r n rights place source via depth q c t =
    or_map (is_operation r.kind && (is_listed ps r.object && leb r.operation greatest_operation)) _ _ (λ u.
    or_map (is_subdirectory r.kind && (between 1 nodes r.object && eqb r.operation 0)) _ _ (λ w. ⊎_elim
    (λ x. clash (and_l (is_client r.kind) _ x) (or-fl (is_client r.kind) (is_server r.kind) (copied-no-end r.kind c)))
    (λ x. clash (and_l (is_server r.kind) _ x) (or-fr (is_client r.kind) (is_server r.kind) (copied-no-end r.kind c)))
    (or_cases (is_client r.kind && (eqb r.object r.number && eqb r.operation 0)) _ w)) u) t

pub depth_is : (r : Row) (rs : List Row) → r.depth ≡ depth_over rs r.source r.via → too_deep r.depth ≡ false → depth_right r rs ≡ true
unfolding has_right_depth too_deep depth_over
depth_is r rs e t =
    and_i (eqb r.depth (depth_over rs r.source r.via)) (leb r.depth greatest_depth) (eq-eqb _ _ e)
    (le-leb r.depth greatest_depth (ltb-false greatest_depth r.depth t))
