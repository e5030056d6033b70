-- The clauses of rows in groups, as the functions that test them go: of one row, and of all rows.
use Rattle.std.specs.Prelude.{suc, max, Bool, true, not, ◌&&◌, ◌||◌, List, [], ◌∷◌, ◌==◌, nat_le, nat_lt}
use Rattle.rows.specs.declared.Row.{Row}
use Rattle.rows.specs.declared.Request.{Request}
use Rattle.rows.specs.declared.Process.{Process}
use Rattle.rows.specs.Lists.{all, each, some}
use Rattle.rows.specs.Limits.{greatest_depth}
use Rattle.rows.specs.Codes.{is_node, is_copied, is_client, is_server}
use Rattle.rows.specs.Tables.{State, request_of, lists}
use Rattle.rows.specs.Sound.{source_of, via_of, object_in_range, objects_in_range, right_in_range, rights_in_range, place_in_range, places_in_range, is_opening, is_registered, is_held, is_port_end, source_right, sources_right, depth_right, depths_right, copy_matches, copies_match, is_paired_with, end_paired, ends_paired, copy_listed, copies_listed}

-- ---- of one row, old the older ones
-- its own fields, and that it is not too deep
unfoldable pub own_right : List Process → Row → Bool
own_right ps y = (object_in_range ps y && (right_in_range y && place_in_range ps y)) && nat_le y.depth greatest_depth

-- a lent copy, but for the port of the request that it bears
unfoldable pub is_copy_over : Row → Row → Row → Bool
is_copy_over y s v = some y.request && (not (is_node y.place) && (is_copied y.kind && (is_copied s.kind && is_client v.kind)))

-- one of the five, but for that port
unfoldable pub shape_right : Row → List Row → Bool
shape_right y old =
    is_opening y
    || (is_registered y (source_of old y)
    || (is_held y (source_of old y) (via_of old y) || (is_port_end y (source_of old y) || is_copy_over y (source_of old y) (via_of old y))))

-- 1 deeper than its sources
unfoldable pub depth_next : Row → List Row → Bool
depth_next y old = y.depth == suc (max (source_of old y).depth (via_of old y).depth)

-- its sources
unfoldable pub by_sources : Row → List Row → Bool
by_sources y old = shape_right y old && (depth_next y old && copy_matches y old)

-- the request that it bears is older, lists it, and has its second source for a port
unfoldable pub loan_right : List Request → Row → Bool
loan_right vs y =
    (y.request == 0)
    || (nat_lt y.request y.number && (lists y.number (request_of vs y.request) && (request_of vs y.request).port == y.via))

-- beside the next older one: a client end stands right before the server end of its port, and nothing else does
unfoldable pub beside_older : Row → List Row → Bool
beside_older y [] = not (is_server y.kind)
beside_older y (a ∷ old) =
    (is_client a.kind && (is_server y.kind && is_paired_with y a)) || (not (is_client a.kind) && not (is_server y.kind))

-- all eight
unfoldable pub row_sound : State → Row → List Row → Bool
row_sound st y old =
    object_in_range st.processes y
    && (right_in_range y
    && (place_in_range st.processes y
    && (source_right st.requests y old
    && (depth_right y old && (copy_matches y old && (end_paired st.rows y && copy_listed st.requests y))))))

-- ---- of all rows
-- the newest is no client end
unfoldable pub newest_paired : List Row → Bool
newest_paired [] = true
newest_paired (y ∷ old) = not (is_client y.kind)

abbrev pub fields_and_sources : List Process → List Row → Bool
fields_and_sources ps rs = all (own_right ps) rs && each by_sources rs

-- all of them but for the requests that rows bear
abbrev pub all_but_loans : List Process → List Row → Bool
all_but_loans ps rs = fields_and_sources ps rs && ends_paired rs

abbrev pub loans_right : State → Bool
loans_right st = all (loan_right st.requests) st.rows

abbrev pub all_of_rows : State → Bool
all_of_rows st =
    objects_in_range st.processes st.rows
    && (rights_in_range st.rows
    && (places_in_range st.processes st.rows
    && (sources_right st.requests st.rows
    && (depths_right st.rows && (copies_match st.rows && (ends_paired st.rows && copies_listed st.requests st.rows))))))
