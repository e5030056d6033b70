-- A lent copy fits on top of the rows: each clause of it, where the ask is not refused.
use Prim.Native.Nat.{ℕ, ◌<◌}
use mathlib.Core.Bool.{Bool, true, false, not, ◌&&◌, ◌||◌}
use mathlib.Core.List.{List, ◌∷◌, map}
use mathlib.Core.Path.{◌≡◌, refl, ◌∙◌}
use lib.Dec.{leb, ltb, eqb}
use borrow.Author.Tests.{ltb-false, lt-ltb, le-leb}
use Rattle.rows.specs.declared.Row.{Row}
use Rattle.rows.specs.declared.Request.{Request}
use Rattle.rows.specs.declared.Process.{Process}
use Rattle.rows.specs.Lists.{first_with, member}
use Rattle.rows.specs.Limits.{all_rights, greatest_depth}
use Rattle.rows.specs.Codes.{is_operation, is_subdirectory, is_client, is_server, is_end, is_copied, with_system, is_system, may_transfer, within}
use Rattle.rows.specs.Tables.{State, row_of, request_of, depth_over, numbers, lists}
use Rattle.rows.specs.Sound.{object_in_range, right_in_range, place_in_range, is_port_end, is_lent_copy, has_right_sources, has_right_depth, matches_source, end_paired, copy_listed, is_fetched, awaits_fetch, same}
use Rattle.rows.proofs.Bools.{clash, and_l, and_r, and_i, or_r, or-fl, or-fr, not_t, not_f, eqb-self, pos-some}
use Rattle.tables.proofs.Sound.{Sound}
use Rattle.tables.proofs.SoundFacts.{next-some, row-object}
use Rattle.rows.proofs.Places.{system-no-node, system-in-range}
use Rattle.calls.specs.declared.Item.{Item}
use Rattle.calls.specs.Rules.{not_held, too_deep, copy_of}
use Rattle.calls.specs.Loans.{item_row, moves, copy_depth, copy_lent, new_request}
use Rattle.calls.specs.Calls.{lacks_right}
use Rattle.kept.proofs.Sourced.{Placeless, depth-placeless, copy-placeless, sources-elsewhere, end-or-copy}
use Rattle.kept.proofs.Moved.{moved, moved_same, row_moved, kind-same}
use Rattle.kept.proofs.Stand.{held-there}

-- what the refusals and the text leave of an item that is copied
unfoldable pub lendable : State → ℕ → ℕ → Item → Bool
lendable st p c i =
    not (moves st i) && (not (not_held st p i.row) && (not (lacks_right st i) && (not (too_deep (copy_depth st c i)) && leb i.rights all_rights)))

pub lendable-there : (st : State) (p c : ℕ) (i : Item) → lendable st p c i ≡ true → member i.row (numbers st.rows) ≡ true
unfolding lendable
lendable-there st p c i g = held-there st p i.row (not_t (not_held st p i.row) (search (and_l, and_r)))

-- what is no end is an operation or a subdirectory
no-end-copied : (ps : List Process) (r : Row) → is_end r.kind ≡ false → object_in_range ps r ≡ true → is_copied r.kind ≡ true
unfolding object_in_range is_end is_copied
no-end-copied ps r n e =
    pick (is_operation r.kind) _ (is_subdirectory r.kind) _ (is_client r.kind) _ (is_server r.kind) _
    (or-fl (is_client r.kind) (is_server r.kind) n) (or-fr (is_client r.kind) (is_server r.kind) n) e
  where
    pick : (a x b y c w d u : Bool) → c ≡ false → d ≡ false → (a && x) || ((b && y) || ((c && w) || (d && u))) ≡ true → a || b ≡ true
    pick true x b y c w d u p q e = refl
    pick false x true y c w d u p q e = refl
    pick false x false y true w d u p q e = clash refl p
    pick false x false y false w true u p q e = clash refl q
    pick false x false y false w false u p q e = e

-- the rows below a copy are those of st, some with another place, as far as old numbers go
module _ (st : State) (s : Sound st) (p c : ℕ) (client : is_client (row_of st.rows c).kind ≡ true) (t : ℕ → Bool) (z : t 0 ≡ false) (its : List ℕ) where
  abbrev base : List Row
  base = map (moved t with_system) st.rows

  abbrev requests' : List Request
  requests' = new_request st.next c p its ∷ st.requests

  request-new : request_of requests' st.next ≡ new_request st.next c p its
  unfolding request_of first_with new_request
  request-new = rw (eqb-self st.next) refl

  module _ (n : ℕ) (i : Item) (g : lendable st p c i ≡ true) where
    no_end : is_end (row_of st.rows i.row).kind ≡ false
    unfolding lendable moves item_row
    no_end = not_t (is_end (row_of st.rows i.row).kind) (search and_l)

    rights-within : within i.rights (row_of st.rows i.row).rights ≡ true
    unfolding lendable lacks_right item_row
    rights-within =
        let l : not (lacks_right st i) ≡ true = search (and_l, and_r) in
        not_f (within i.rights (row_of st.rows i.row).rights)
        (or-fr (not (moves st i) && not (may_transfer (row_of st.rows i.row).rights)) (not (within i.rights (row_of st.rows i.row).rights)) (not_t (lacks_right st i) l))

    depth-most : leb (copy_depth st c i) greatest_depth ≡ true
    unfolding lendable too_deep
    depth-most =
        let d : not (ltb greatest_depth (copy_depth st c i)) ≡ true = search (and_l, and_r) in
        le-leb (copy_depth st c i) greatest_depth (ltb-false greatest_depth (copy_depth st c i) (not_t (ltb greatest_depth (copy_depth st c i)) d))

    object_of : object_in_range st.processes (row_of st.rows i.row) ≡ true
    object_of = row-object st s.rows i.row (lendable-there st p c i g)

    copy-no-end : is_end (copy_lent st c st.next n i).kind ≡ false
    unfolding copy_lent copy_of item_row
    copy-no-end = no_end

    pub copy-object : object_in_range st.processes (copy_lent st c st.next n i) ≡ true
    copy-object =
        equal (or-fl (is_client (row_of st.rows i.row).kind) (is_server (row_of st.rows i.row).kind) ends)
        (or-fr (is_client (row_of st.rows i.row).kind) (is_server (row_of st.rows i.row).kind) ends) ∙ object_of
      where
        ends : is_client (row_of st.rows i.row).kind || is_server (row_of st.rows i.row).kind ≡ false
        ends = unfold is_end in no_end

        equal : is_client (row_of st.rows i.row).kind ≡ false → is_server (row_of st.rows i.row).kind ≡ false
            → object_in_range st.processes (copy_lent st c st.next n i) ≡ object_in_range st.processes (row_of st.rows i.row)
        equal a b = unfold object_in_range copy_lent copy_of item_row in rw (a, b) refl

    pub copy-right : right_in_range (copy_lent st c st.next n i) ≡ true
    unfolding right_in_range copy_lent copy_of item_row lendable
    copy-right = rw no_end (let l : leb i.rights all_rights ≡ true = search (and_l, and_r) in l)

    pub copy-place : place_in_range st.processes (copy_lent st c st.next n i) ≡ true
    copy-place = system-in-range st.processes (copy_lent st c st.next n i) (unfold copy_lent copy_of in refl)

    pub copy-paired : (rs : List Row) → end_paired rs (copy_lent st c st.next n i) ≡ true
    unfolding end_paired
    copy-paired rs = rw copy-no-end refl

    -- ---- with its sources, the item's row and the client end, which may have moved
    abbrev item : Row
    item = row_of st.rows i.row

    abbrev client-end : Row
    client-end = row_of st.rows c

    item-copied : is_copied item.kind ≡ true
    item-copied = no-end-copied st.processes item no_end object_of

    pub copy-source : has_right_sources requests' (copy_lent st c st.next n i) (row_of base i.row) (row_of base c) ≡ true
    copy-source =
        end-or-copy requests' (copy_lent st c st.next n i) (row_of base i.row) (row_of base c)
        (or_r (is_port_end (copy_lent st c st.next n i) (row_of base i.row)) (is_lent_copy requests' (copy_lent st c st.next n i) (row_of base i.row) (row_of base c)) right)
      where
        right : is_lent_copy requests' (copy_lent st c st.next n i) (row_of base i.row) (row_of base c) ≡ true
        right =
            unfold is_lent_copy copy_lent copy_of item_row in
            rw (
              pos-some st.next (next-some st s.numbers),
              system-no-node,
              item-copied,
              kind-same t with_system z st.rows i.row,
              item-copied,
              kind-same t with_system z st.rows c,
              client,
              request-new,
            )
            (unfold new_request in eqb-self c)

    -- tests that do not look at places say the same of the sources where they were
    unmoved : (F : Row → Row → Row → Bool) → Placeless F → (r : Row) → F r item client-end ≡ true → F r (row_of base i.row) (row_of base c) ≡ true
    unmoved F h r e =
        rw (row_moved t with_system z st.rows i.row, row_moved t with_system z st.rows c)
        (sources-elsewhere (moved t with_system) (λ f k r. moved_same t with_system f (k with_system) r) F h r item client-end ∙ e)

    pub copy-depth : has_right_depth (copy_lent st c st.next n i) (row_of base i.row) (row_of base c) ≡ true
    copy-depth =
        unmoved has_right_depth depth-placeless (copy_lent st c st.next n i)
        (unfold has_right_depth copy_lent copy_of copy_depth depth_over in and_i (eqb (copy_depth st c i) (copy_depth st c i)) (leb (copy_depth st c i) greatest_depth) (eqb-self (copy_depth st c i)) depth-most)

    pub copy-matches : matches_source (copy_lent st c st.next n i) (row_of base i.row) (row_of base c) ≡ true
    copy-matches = unmoved matches_source copy-placeless (copy_lent st c st.next n i) itself
      where
        itself : matches_source (copy_lent st c st.next n i) item client-end ≡ true
        itself =
            unfold matches_source copy_lent copy_of item_row in or_r (eqb i.row 0) _
            (or_r (is_end item.kind) _ (rw (eqb-self item.kind, eqb-self item.object, eqb-self item.operation) rights-within))

    -- ---- with the new request, which lists it
    module _ (later : st.next < n) (listed : lists n (new_request st.next c p its) ≡ true) where
      pub copy-listed : copy_listed requests' (copy_lent st c st.next n i) ≡ true
      unfolding copy_listed copy_lent copy_of
      copy-listed = or_r (eqb st.next 0) _ (rw (request-new, lt-ltb st.next n later) listed)

      pub copy-held : same (is_system (copy_lent st c st.next n i).place) (awaits_fetch requests' (copy_lent st c st.next n i).number) ≡ true
      unfolding awaits_fetch copy_lent copy_of is_system with_system
      copy-held = rw listed (unfold is_fetched new_request same in refl)
