-- The statement of demand 3 is not empty: computed sessions in which a revoke takes back what it must and leaves what it must; nor is that of comesall.
use Rattle.std.specs.Prelude.{ℕ, Bool, not, ◌&&◌, List, [], ◌∷◌, map, T, eqb, replicate}
use Prim.Native.String.{String}
use Rattle.rows.specs.Lists.{any, all, member, same_list, bytes}
use Rattle.rows.specs.Codes.{in_clist}
use Rattle.rows.specs.Tables.{State, row_of, numbers}
use Rattle.rows.specs.Layout.{tables_length, processes_length, words_of}
use Rattle.text.specs.Opening.{Opening, opens, refused_at, lines_of, opening_of}
use Rattle.text.specs.CallLines.{Group}
use Rattle.text.specs.Answers.{ok_text, printed}
use Rattle.text.specs.Entry.{Replied, open_entry, call_entry, call_on, state_opened}
use Rattle.history.specs.History.{History}
use Rattle.history.specs.Notes.{loan_of, stands, is_closed}
use Rattle.history.specs.Reading.{begun, note_line}
use Rattle.history.specs.Demand3.{lent_after}
use Rattle.history.specs.ComesTold.{comes_told}

-- the history and the state after a text, and after lines
pub record Moment : Type 0 where
  pub history : History
  pub state : State

unfoldable pub after_lines : Moment → List (List ℕ) → Moment
after_lines s [] = s
after_lines s (l ∷ ls) = let o = call_on s.state l in after_lines (record { history = note_line s.history l (printed o.answer); state = o.after }) ls

unfoldable pub after_opening : History → Opening → Moment
after_opening h (opens fs rest) = after_lines (record { history = h; state = state_opened fs }) rest
after_opening h (refused_at k n) = record { history = h; state = state_opened [] }

unfoldable pub moment_after : String → Moment
moment_after t = after_opening (begun (bytes t)) (opening_of (lines_of (bytes t)))

unfoldable pub in_tables : ℕ → Moment → Bool
in_tables n s = member n (numbers s.state.rows)

unfoldable pub has_on_loan : ℕ → ℕ → Moment → Bool
has_on_loan q e s = any (λ o. eqb o.request q && eqb o.lent e) s.history.loans

unfoldable pub closed : ℕ → Moment → Bool
closed q s = is_closed s.history (loan_of s.history.requests q)

unfoldable pub is_with : ℕ → ℕ → Moment → Bool
is_with e p s = eqb (row_of s.state.rows e).place (in_clist p)

-- ---- (rules H4, H6, C3, C5) an end lent twice goes back to the first lender: 1 lends the end 7 and the operation 6 to 2 by request 9; 2 makes port 11 from the copy 10
-- and lends 7 on over it by request 13. The revoke of 9 closes both.
unfoldable pub lent_twice : Moment
lent_twice =
    moment_after "(node 1 (op 2 1 7) (op 3 1 7))\n(process 1 1)\n(process 2 1)\n(process 3 1)\n(open)\n(1 hold 1)\n(1 port 3)\n(1 hold 2)\n(1 port 6)\n(1 ask 4 (7 0) (6 3))\n(2 fetch 5)\n(2 port 10)\n(2 ask 11 (7 0))\n"

unfoldable pub lent_twice_revoked : Moment
lent_twice_revoked = after_lines lent_twice (bytes "(1 revoke 9)\n" ∷ [])

pub goes-back-to-first-lender :
    T (all (λ test. test lent_twice) (has_on_loan 9 7 ∷ has_on_loan 13 7 ∷ (λ s. not (closed 9 s)) ∷ (λ s. not (closed 13 s)) ∷ [])
    && all (λ test. test lent_twice_revoked) (closed 9 ∷ closed 13 ∷ (λ s. stands s.history 7) ∷ is_with 7 1 ∷ (λ s. not (has_on_loan 9 7 s)) ∷ (λ s. not (has_on_loan 13 7 s)) ∷ []))
unfolding moment_after after_lines after_opening in_tables has_on_loan closed is_with lent_twice lent_twice_revoked Rattle.rows.specs.Computes.computes Rattle.closing.specs.Computes.computes Rattle.calls.specs.Computes.computes Rattle.text.specs.Computes.computes Rattle.history.specs.Computes.computes
goes-back-to-first-lender = tt

-- ---- (rules H1, H2, H3, H5, C1) a port made from a lent operation goes with the loan: 9 and 10 are made from the copy 8 that bears request 7
unfoldable pub port_from_loan : Moment
port_from_loan =
    moment_after "(node 1 (op 2 5 7) (dir 2 3))\n(node 2 (op 3 1 1))\n(process 1 1)\n(process 2 2)\n(process 3 2)\n(open)\n(1 hold 1)\n(1 port 4)\n(1 ask 5 (4 3))\n(2 fetch 6)\n(2 port 8)\n"

unfoldable pub port_from_loan_revoked : Moment
port_from_loan_revoked = after_lines port_from_loan (bytes "(1 revoke 7)\n" ∷ [])

pub port-goes-with-loan :
    T (all (λ n. in_tables n port_from_loan && stands port_from_loan.history n) (4 ∷ 5 ∷ 6 ∷ 8 ∷ 9 ∷ 10 ∷ [])
    && (all (λ n. not (in_tables n port_from_loan_revoked) && not (stands port_from_loan_revoked.history n)) (8 ∷ 9 ∷ 10 ∷ [])
    && all (λ n. in_tables n port_from_loan_revoked && stands port_from_loan_revoked.history n) (1 ∷ 2 ∷ 3 ∷ 4 ∷ 5 ∷ 6 ∷ [])))
unfolding moment_after after_lines after_opening in_tables port_from_loan port_from_loan_revoked Rattle.rows.specs.Computes.computes Rattle.closing.specs.Computes.computes Rattle.calls.specs.Computes.computes Rattle.text.specs.Computes.computes Rattle.history.specs.Computes.computes
port-goes-with-loan = tt

-- ---- (rules C11, H6) what was received over a borrowed port stays: the server end 6 is lent by request 7; the copy 9 of request 8 is received over it
unfoldable pub received : Moment
received =
    moment_after "(node 1 (op 1 1 7))\n(process 1 1)\n(open)\n(1 hold 1)\n(1 port 2)\n(1 port 2)\n(1 ask 3 (6 0))\n(1 fetch 4)\n(1 ask 5 (2 3))\n(1 fetch 6)\n"

unfoldable pub received_revoked : Moment
received_revoked = after_lines received (bytes "(1 revoke 7)\n" ∷ [])

pub received-stays :
    T (all (λ test. test received) (has_on_loan 7 6 ∷ in_tables 9 ∷ [])
    && all (λ test. test received_revoked) (closed 7 ∷ (λ s. not (closed 8 s)) ∷ in_tables 9 ∷ (λ s. stands s.history 9) ∷ is_with 9 1 ∷ is_with 6 1 ∷ []))
unfolding moment_after after_lines after_opening in_tables has_on_loan closed is_with received received_revoked Rattle.rows.specs.Computes.computes Rattle.closing.specs.Computes.computes Rattle.calls.specs.Computes.computes Rattle.text.specs.Computes.computes Rattle.history.specs.Computes.computes
received-stays = tt

-- ---- (rules K6, O9) the entry points on the lent words, whatever they held before: the manual's first session up to the revoke, its replies, and the words of the state that it leaves
unfoldable pub opened : Replied
opened =
    open_entry (replicate tables_length 7) (replicate processes_length 7) (bytes "(node 1 (op 2 5 7) (dir 2 3))\n(node 2 (op 3 1 1))\n(process 1 1)\n(process 2 2)\n(process 3 2)\n(open)\n")

unfoldable pub lines : List (List ℕ)
lines = map bytes ("(1 hold 1)\n" ∷ "(1 port 4)\n" ∷ "(1 ask 5 (4 3))\n" ∷ "(2 fetch 6)\n" ∷ "(2 port 8)\n" ∷ "(1 revoke 7)\n" ∷ [])

pub words_left : T (same_list (lent_after opened lines).tables (words_of port_from_loan_revoked.state))
unfolding moment_after after_lines after_opening port_from_loan port_from_loan_revoked opened lines Rattle.rows.specs.Computes.computes Rattle.closing.specs.Computes.computes Rattle.calls.specs.Computes.computes Rattle.text.specs.Computes.computes Rattle.history.specs.Computes.computes
words_left = tt

-- ---- (rule P32) of three pairs the single questions' answers on those words are 1, 0 and `-`, and comesall answers them in one line
unfoldable pub port_made : Replied
port_made = lent_after opened (map bytes ("(1 hold 1)\n" ∷ "(1 port 4)\n" ∷ "(1 ask 5 (4 3))\n" ∷ "(2 fetch 6)\n" ∷ "(2 port 8)\n" ∷ []))

unfoldable pub three_pairs : List Group
three_pairs = record { first = 10; second = 7 } ∷ record { first = 4; second = 7 } ∷ record { first = 4; second = 8 } ∷ []

pub told-as-single :
    T (same_list (ok_text (map (comes_told port_made.tables port_made.processes) three_pairs)) (bytes "(ok 1 0 -)\n")
    && same_list (call_entry port_made.tables port_made.processes (bytes "(comesall (10 7) (4 7) (4 8))\n")).reply (bytes "(ok 1 0 -)\n"))
unfolding opened port_made three_pairs Rattle.rows.specs.Computes.computes Rattle.closing.specs.Computes.computes Rattle.calls.specs.Computes.computes Rattle.text.specs.Computes.computes Rattle.history.specs.Computes.computes
told-as-single = tt
