-- The security theorems are not empty: of each what it speaks of is there in a session, computed.
use Rattle.std.specs.Prelude.{ℕ, Bool, not, ◌&&◌, ◌||◌, [], ◌∷◌, map, T, eqb, length}
use Rattle.rows.specs.declared.Row.{Row}
use Rattle.rows.specs.Lists.{any, all, same_list}
use Rattle.rows.specs.Codes.{in_clist, with_system, is_node, is_system, may_hold, within}
use Rattle.rows.specs.Tables.{row_of, request_of, process_at, on_loan, is_lent}
use Rattle.rows.specs.Sound.{is_fetched}
use Rattle.calls.specs.declared.Call.TheVariants.{Close, Hold, Revoke}
use Rattle.calls.specs.Answers.{refusal_of, values_of}
use Rattle.text.specs.declared.Reading.TheVariants.{Asks}
use Rattle.text.specs.Entry.{answered}
use Rattle.text.specs.ReadBack.{numbers_in}
use Rattle.security.specs.Sessions.{fetcher_of}
use Rattle.security.specs.Changes.{goes, shuts, place_after, record_after}
use Rattle.security.specs.Places.{home_of, listers, whereabouts}
use Rattle.security.specs.Revocation.{after_calls, revoke_each}
use Rattle.security.specs.Isolation.{View, view}
use Rattle.security.specs.tests.Runs.{Run, after_line, after_lines, opened, after_opening, run, then, stands, is_asked, is_with, has_on_loan, places_said}

unfoldable pub row : Run → ℕ → Row
row r n = row_of r.state.rows n

-- ---- 1 lends the end 7 and the operation 6 to 2 by request 9; 2 makes port 11 from the copy 10 and lends 7 on, to 3, by request 13
unfoldable pub lent : Run
lent =
    run "(node 1 (op 2 1 7) (op 3 1 7))\n(process 1 1)\n(process 2 1)\n(process 3 1)\n(open)\n(1 hold 1)\n(1 port 3)\n(1 hold 2)\n(1 port 6)\n(1 ask 4 (7 0) (6 3))\n(2 fetch 5)\n(2 port 10)\n"

unfoldable pub lent_on : Run
lent_on = then lent ("(2 ask 11 (7 0))\n" ∷ [])

unfoldable pub revoked : Run
revoked = then lent_on ("(1 revoke 9)\n" ∷ [])

-- ---- 1 lends the subdirectory 5, of node 2, to 2 by request 8; 2 goes through the copy 9 and holds 10 in node 2; 1 registers 4 there
unfoldable pub way : Run
way =
    run "(node 1 (op 2 0 7) (dir 2 7))\n(node 2 (op 3 0 7))\n(process 1 1)\n(process 2 1)\n(process 3 1)\n(open)\n(1 hold 1)\n(1 hold 2)\n(1 port 4)\n(1 ask 6 (5 0))\n(2 fetch 7)\n(2 go 9)\n(2 hold 3)\n"

unfoldable pub registered : Run
registered = then way ("(1 go 5)\n" ∷ "(1 register 4)\n" ∷ "(1 revoke 8)\n" ∷ [])

-- isolation: a hold of 3 that 1 cannot see
unfoldable pub elsewhere : Run
elsewhere = then lent_on ("(3 hold 1)\n" ∷ [])

-- to unfold this is to unfold all that the tests compute
unfoldable everything : Unit {0}
unfolding after_line after_lines opened after_opening run then stands is_asked is_with has_on_loan places_said row lent lent_on revoked way registered elsewhere Rattle.rows.specs.Computes.computes Rattle.closing.specs.Computes.computes Rattle.calls.specs.Computes.computes Rattle.text.specs.Computes.computes Rattle.history.specs.Computes.computes Rattle.security.specs.Computes.computes
everything = tt

-- rights: the copy 10 has 3 of the 7 that row 6 has, and row 6 those of the text's row 2
pub rights-lessened :
    T (eqb (row lent 10).source 6 && (eqb (row lent 6).source 2 && (within (row lent 10).rights (row lent 6).rights
    && (not (eqb (row lent 10).rights (row lent 6).rights) && eqb (row lent 6).rights (row lent 2).rights))))
unfolding everything
rights-lessened = tt

-- authority: the end 7 goes from 1 by request 9 to 2, to the system, and back to 1; the server end 12 of a port that 2 made is with 3
pub authority-moves : T (is_with lent 2 7 && (eqb (row lent_on 7).place with_system && (is_with revoked 1 7 && (is_with lent 2 10 && (is_with lent 2 11 && is_with lent 3 12)))))
unfolding everything
authority-moves = tt

-- places: 13 and 9 list the end 7, the newest first; 13 is not fetched; 2, who asked 13, fetched 9, and 1, who asked 9, is its home
pub places-told :
    T (same_list (map (λ v. v.number) (listers 7 lent_on.state.requests)) (13 ∷ 9 ∷ [])
    && (eqb (whereabouts lent_on.log (home_of lent_on.state (row lent_on 7)) (listers 7 lent_on.state.requests)) with_system
    && (eqb (request_of lent_on.state.requests 13).asker (fetcher_of lent_on.log 9)
    && (eqb (in_clist (request_of lent_on.state.requests 9).asker) (home_of lent_on.state (row lent_on 7)) && eqb (fetcher_of lent_on.log 9) 2))))
unfolding everything
places-told = tt

-- touches: a revoke of 9 takes the copy and the port made from it, closes 13 too, and gives 7 to 1; it takes no number
pub touched :
    T (all (λ n. goes lent_on.state (Revoke 1 9) n && not (stands revoked n)) (10 ∷ 11 ∷ 12 ∷ [])
    && (all (λ n. not (goes lent_on.state (Revoke 1 9) n) && stands revoked n) (1 ∷ 2 ∷ 3 ∷ 4 ∷ 5 ∷ 6 ∷ 7 ∷ 8 ∷ [])
    && (all (λ q. shuts lent_on.state (Revoke 1 9) (request_of lent_on.state.requests q) && not (is_asked revoked q)) (9 ∷ 13 ∷ [])
    && (eqb (place_after lent_on.state (Revoke 1 9) (row lent_on 7)) (in_clist 1) && eqb revoked.state.next lent_on.state.next))))
unfolding everything
touched = tt

-- a process in a node through a row that goes is sent to its prime node
pub sent-home : T (eqb (process_at way.state.processes 2).active 2 && (goes way.state (Revoke 1 8) 9 && eqb (record_after way.state (Revoke 1 8) 2).active 1))
unfolding everything
sent-home = tt

-- numbers: the next row after the revoke takes 14, though 9 to 13 are free
pub never-again :
    T (eqb revoked.state.next 14 && (not (any (stands revoked) (9 ∷ 10 ∷ 11 ∷ 12 ∷ 13 ∷ []))
    && same_list (numbers_in (values_of (answered revoked.state (Asks (Hold 1 1))).answer)) (14 ∷ [])))
unfolding everything
never-again = tt

-- revocation: 9 is the oldest that lists 7, and may be revoked though 2 lent 7 on; 7 is then off loan and may be closed; before it may not
pub home-again :
    T (eqb (refusal_of (answered lent_on.state (Asks (Revoke 1 9))).answer) 0 && (on_loan lent_on.state.requests 7
    && (not (on_loan revoked.state.requests 7) && (eqb (refusal_of (answered revoked.state (Asks (Close 1 7))).answer) 0
    && eqb (refusal_of (answered lent.state (Asks (Close 2 7))).answer) 12))))
unfolding everything
home-again = tt

-- what 2 has: 5 serves, 7 is lent, 10 is borrowed, 11 is made from 10; in the other session 10 is held through the borrowed 9, and lent
pub had :
    T (all (is_with lent 2) (5 ∷ 7 ∷ 10 ∷ 11 ∷ []) && (eqb (row lent 10).request 9 && (is_fetched (request_of lent.state.requests 9)
    && (eqb (row lent 11).source 10 && (is_with way 2 10 && (eqb (row way 10).via 9 && (eqb (row way 9).request 8 && (is_lent way.state 10 && not (is_lent way.state 5)))))))))
unfolding everything
had = tt

-- reach: behind 10 is row 3 of node 2, which 1, the first lender, reaches from its prime node 1 by row 2; 2 may take no subdirectory through 9
pub reached :
    T (eqb (row way 10).source 3 && (eqb (row way 3).place 2 && (may_hold (row way 3).rights && (eqb (process_at way.state.processes 1).prime 1
    && (eqb (row way 2).place 1 && (eqb (row way 2).object 2 && may_hold (row way 2).rights))))))
unfolding everything
reached = tt

-- nodes: what 1 registers stays when its loan is revoked
pub node_stays : T (is_node (row registered 11).place && (stands registered 11 && (stands registered 3 && not (stands registered 10))))
unfolding everything
node_stays = tt

-- room: both requests revoked, in either order
pub room_back :
    T (all (λ qs. let st = after_calls lent_on.state (revoke_each lent_on.state qs) in eqb (length st.requests) 0 && (eqb (length st.rows) 8 && all (λ r. not (is_system r.place)) st.rows))
    ((9 ∷ 13 ∷ []) ∷ (13 ∷ 9 ∷ []) ∷ []))
unfolding everything
room_back = tt

-- isolation: a hold of 3 leaves what 1 can see, and 1's next hold is answered with the next number
unfoldable pub same_seen : View → View → Bool
same_seen v w =
    same_list (map (λ x. x.row.number) v.rows) (map (λ x. x.row.number) w.rows)
    && (same_list (map (λ x. x.row.place) v.rows) (map (λ x. x.row.place) w.rows)
    && (same_list (map (λ r. r.number) v.node) (map (λ r. r.number) w.node) && (same_list v.asked w.asked && eqb v.process.active w.process.active)))

pub unseen :
    T (same_seen (view lent_on.state 1) (view elsewhere.state 1) && (same_list (view lent_on.state 1).asked (9 ∷ [])
    && (same_list (numbers_in (values_of (answered lent_on.state (Asks (Hold 1 1))).answer)) (14 ∷ []) && same_list (numbers_in (values_of (answered elsewhere.state (Asks (Hold 1 1))).answer)) (15 ∷ []))))
unfolding everything same_seen
unseen = tt

-- on loan: 9 has the end 7, then 13 too; neither once 9 is closed
pub loans-told : T (has_on_loan lent 9 7 && (has_on_loan lent_on 9 7 && (has_on_loan lent_on 13 7 && not (has_on_loan revoked 9 7 || has_on_loan revoked 13 7))))
unfolding everything
loans-told = tt

-- who has what: by the notes of the history of every row of these sessions, with a fetch and without, before and after a revoke and a register
pub holders-told : T (all places_said (lent ∷ lent_on ∷ revoked ∷ way ∷ registered ∷ []))
unfolding everything
holders-told = tt
