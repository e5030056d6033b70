-- hold and register keep the tables sound: each adds a copy of a row, no end, that bears no request's number.
use Prim.Native.Nat.{ℕ, suc, ◌/◌, ◌%◌}
use mathlib.Core.Bool.{true, false, ◌&&◌, ◌||◌}
use mathlib.Core.List.{◌∷◌}
use mathlib.Core.Path.{◌≡◌, refl, ap, ◌∙◌}
use mathlib.Core.Logic.{⊎_elim}
use lib.Dec.{eqb}
use borrow.Author.Tests.{eqb-true, le-leb}
use native.Mathlib.Omega.{arith}
use Rattle.rows.specs.declared.Row.{Row}
use Rattle.rows.specs.declared.Process.{Process}
use Rattle.rows.specs.Lists.{member, some}
use Rattle.rows.specs.Codes.{is_subdirectory, is_end, is_copied, in_node, in_clist, is_node, is_clist, is_system, within}
use Rattle.rows.specs.Tables.{State, row_of, process_at, is_listed, numbers, depth_over}
use Rattle.rows.specs.Sound.{right_in_range, place_in_range, is_opening, is_registered, is_held, source_right, copy_matches, process_placed, has_right_sources, matches_source, source_of, via_of}
use Rattle.rows.proofs.Bools.{and_l, and_r, and_i, or_cases, or_l, or_r, eqb-self}
use Rattle.tables.proofs.Sound.{Sound}
use Rattle.rows.proofs.Places.{copied-no-end, node-not-system, node-in-range, clist-not-node}
use Rattle.tables.proofs.SoundFacts.{clist-is, clist-not-system, clist-in-range, active-node, placed_at, row-object, row-right, in-node-copied, not-lent-held, unlent-unborne}
use Rattle.tables.proofs.Standing.{standing-shape, standing-copy}
use Rattle.calls.specs.Rules.{too_deep, rows_full, numbers_spent, with_new_rows, copy_of}
use Rattle.calls.specs.Calls.{with_held, with_registered}
use Rattle.kept.proofs.AddRow.{add-row}
use Rattle.kept.proofs.Allowed.{HoldAllowed, RegisterAllowed}
use Rattle.kept.proofs.Stand.{copy-object, depth_is}

-- ---- the copy
within-self : (r : ℕ) → within r r ≡ true
unfolding within
within-self r =
    and_i _ _ (le-leb (r % 2) (r % 2) (omega arith)) (and_i _ _ (le-leb (r / 2 % 2) (r / 2 % 2) (omega arith)) (le-leb (r / 4 % 2) (r / 4 % 2) (omega arith)))

-- the copy of row e with its rights, bearing no request's number
abbrev copied : State → ℕ → ℕ → ℕ → ℕ → ℕ → Row
copied st e place source via d = copy_of (row_of st.rows e) st.next (row_of st.rows e).rights place source via d 0

-- it may be added where its place, its sources and its depth are right
copy-added : (st : State) → Sound st → (e place source via d : ℕ) → member e (numbers st.rows) ≡ true → is_copied (row_of st.rows e).kind ≡ true
    → place_in_range st.processes (copied st e place source via d) ≡ true → is_system place ≡ false → source_right st.requests (copied st e place source via d) st.rows ≡ true
    → d ≡ depth_over st.rows source via → too_deep d ≡ false → copy_matches (copied st e place source via d) st.rows ≡ true → rows_full st 1 ≡ false → numbers_spent st 1 ≡ false
    → Sound (with_new_rows (copied st e place source via d ∷ st.rows) (suc st.next) st)
unfolding copy_of right_in_range
copy-added st s e place source via d t c p y q z v m f n =
    add-row st s (copied st e place source via d)
    (record {
      number = refl;
      object = copy-object st.processes (row_of st.rows e) st.next (row_of st.rows e).rights place source via d 0 c (row-object st s.rows e t);
      right = row-right st s.rows e t;
      place = p;
      away = y;
      source = q;
      depth = depth_is (copied st e place source via d) st.rows z v;
      copy = m;
      unborne = refl;
    })
    (copied-no-end (row_of st.rows e).kind c) f n

-- ---- hold
module _ (st : State) (s : Sound st) (p : ℕ) (l : is_listed st.processes p ≡ true) where
  through-right : (x : Process) → process_placed st.rows p x ≡ true → eqb x.through 0 || is_subdirectory (row_of st.rows x.through).kind ≡ true
  unfolding process_placed
  through-right x t =
      ⊎_elim (λ u. or_l (eqb x.through 0) (is_subdirectory (row_of st.rows x.through).kind) (and_l (eqb x.through 0) _ u))
      (λ u. or_r (eqb x.through 0) (is_subdirectory (row_of st.rows x.through).kind)
      (and_l (is_subdirectory (row_of st.rows x.through).kind) _ (and_r (some x.through) _ u)))
      (or_cases (eqb x.through 0 && eqb x.active x.prime) _ t)

pub hold-kept : (st : State) → Sound st → (p e : ℕ) → HoldAllowed st p e → Sound (with_held st p e)
unfolding with_held copy_of has_right_sources is_held matches_source
hold-kept st s p e a =
    let l = a.caller in
    let r = row_of st.rows e in
    let via = (process_at st.processes p).through in
    let c = in-node-copied st.requests st.rows r (standing-shape st s.numbers s.rows e a.there) a.node in
    let new = copied st e (in_clist p) e via (depth_over st.rows e via) in
    copy-added st s e (in_clist p) e via (depth_over st.rows e via) a.there c
    (clist-in-range st s.placed p l new refl)
    (clist-not-system st s.placed p l)
    (or_r (is_opening new) _ (or_r (is_registered new (source_of st.rows new)) _ (or_l (is_held new (source_of st.rows new) (via_of st.rows new)) _
    (and_i (is_clist (in_clist p)) _ (clist-is st s.placed p l) (and_i (is_copied r.kind) _ c
    (and_i (is_node r.place) _ a.node (and_i _ true (through-right st s p l (process_at st.processes p) (placed_at st s.placed p l)) refl)))))))
    refl a.depth
    (or_r (eqb e 0) _ (or_r (is_end r.kind) _ (and_i _ _ (eqb-self r.kind) (and_i _ _ (eqb-self r.object) (and_i _ _ (eqb-self r.operation) (within-self r.rights))))))
    a.rows-free a.numbers-free

-- ---- register
-- a row in a c-list, no end and not lent, was taken from a directory row
pub was-held : (st : State) → Sound st → (p e : ℕ) → RegisterAllowed st p e → is_held (row_of st.rows e) (source_of st.rows (row_of st.rows e)) (via_of st.rows (row_of st.rows e)) ≡ true
was-held st s p e a =
    let there = a.row.there in
    let r = row_of st.rows e in
    let outside : is_node r.place ≡ false = ap is_node (eqb-true r.place (in_clist p) a.row.place) ∙ clist-not-node p in
    not-lent-held st.requests st.rows r (standing-shape st s.numbers s.rows e there) outside a.no_end (unlent-unborne st e there a.unlent)

pub register-kept : (st : State) → Sound st → (p e : ℕ) → RegisterAllowed st p e → Sound (with_registered st p e)
unfolding with_registered copy_of has_right_sources is_held is_registered matches_source in_node
register-kept st s p e a =
    let there = a.row.there in
    let r = row_of st.rows e in
    let node = (process_at st.processes p).active in
    let held : is_held r (source_of st.rows r) (via_of st.rows r) ≡ true = was-held st s p e a in
    let c : is_copied r.kind ≡ true = and_l (is_copied r.kind) _ (and_r (is_clist r.place) _ held) in
    let above : is_node (row_of st.rows r.source).place ≡ true = and_l (is_node (row_of st.rows r.source).place) _ (and_r (is_copied r.kind) _ (and_r (is_clist r.place) _ held)) in
    let d' = depth_over st.rows r.source 0 in
    let new = copied st e node r.source 0 d' in
    let active = active-node st s.placed p a.caller in
    copy-added st s e node r.source 0 d' there c
    (node-in-range st.processes new active)
    (node-not-system node active)
    (or_r (is_opening new) _ (or_l (is_registered new (source_of st.rows new)) _
    (and_i (is_node node) _ active (and_i (is_copied r.kind) _ c (and_i (is_node (row_of st.rows r.source).place) true above refl)))))
    refl a.depth
    (standing-copy st s.numbers s.rows e there)
    a.rows-free a.numbers-free
