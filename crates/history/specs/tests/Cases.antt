-- The cases that the customer's specification stars, and the readings that it calls wrong: one theorem over a table of them, computed by the prover.
use Rattle.std.specs.Prelude.{ℕ, Bool, List, [], ◌∷◌, ◌++◌, T}
use Prim.Native.String.{String}
use Rattle.rows.specs.Lists.{all, same_list, bytes}
use Rattle.text.specs.Session.{session}

-- a call line and its answer, without their line feeds
pub record Exchange : Type 0 where
  pub line : String
  pub answer : String

infixl 80 ◌⇒◌
unfoldable pub ◌⇒◌ : String → String → Exchange
l ⇒ a = record { line = l; answer = a }

-- a session: the lines of the opening text, what it answers, the calls
pub record Case : Type 0 where
  pub name : String
  pub opening : List String
  pub opened : String
  pub calls : List Exchange

unfoldable pub lines_bytes : List String → List ℕ
lines_bytes [] = []
lines_bytes (l ∷ ls) = bytes l ++ (10 ∷ lines_bytes ls)

unfoldable pub call_bytes : List Exchange → List ℕ
call_bytes [] = []
call_bytes (x ∷ xs) = bytes x.line ++ (10 ∷ call_bytes xs)

unfoldable pub answer_bytes : List Exchange → List ℕ
answer_bytes [] = []
answer_bytes (x ∷ xs) = bytes x.answer ++ (10 ∷ answer_bytes xs)

unfoldable pub passes : Case → Bool
passes c = same_list (session (lines_bytes c.opening ++ call_bytes c.calls)) (bytes c.opened ++ (10 ∷ answer_bytes c.calls))

-- the opening of the manual's first session
unfoldable pub registry : List String
registry = "(node 1 (op 2 5 7) (dir 2 3))" ∷ "(node 2 (op 3 1 1))" ∷ "(process 1 1)" ∷ "(process 2 2)" ∷ "(process 3 2)" ∷ "(open)" ∷ []

-- process 1 has operations of managers 2 and 3, who have each other's and may lend them
unfoldable pub offices : List String
offices = "(node 1 (op 2 1 7) (op 3 1 7) (dir 2 7))" ∷ "(node 2 (op 3 2 7) (op 1 2 7) (dir 1 7))" ∷ "(process 1 1)" ∷ "(process 2 2)" ∷ "(process 3 2)" ∷ "(open)" ∷ []

-- a node that is its own subdirectory
unfoldable pub loop : List String
loop = "(node 1 (dir 1 1))" ∷ "(process 1 1)" ∷ "(open)" ∷ []

unfoldable pub starred : List Case
starred =
    record {
      name = "the session";
      opening = registry;
      opened = "(ok 0)";
      calls =
          "(1 hold 1)" ⇒ "(ok 4)"
          ∷ "(1 port 4)" ⇒ "(ok 5)"
          ∷ "(1 ask 5 (4 3))" ⇒ "(ok 7)"
          ∷ "(2 fetch 6)" ⇒ "(ok 7 8)"
          ∷ "(2 port 8)" ⇒ "(ok 9)"
          ∷ "(1 revoke 7)" ⇒ "(ok 0)"
          ∷ "(2 ask 9)" ⇒ "(no 7)"
          ∷ [];
    }
    ∷ record {
      name = "rights 7 accepted";
      opening = "(node 1 (op 1 5 7))" ∷ "(process 1 1)" ∷ "(open)" ∷ [];
      opened = "(ok 0)";
      calls = "(1 hold 1)" ⇒ "(ok 2)" ∷ "(1 port 2)" ⇒ "(ok 3)" ∷ "(1 ask 3 (2 7))" ⇒ "(ok 5)" ∷ [];
    }
    ∷ record {
      name = "rights 8 give 3";
      opening = "(node 1 (op 1 5 8))" ∷ "(process 1 1)" ∷ "(open)" ∷ [];
      opened = "(no 3 1)";
      calls = [];
    }
    ∷ record {
      name = "rights 8 lent give 3";
      opening = registry;
      opened = "(ok 0)";
      calls = "(1 hold 1)" ⇒ "(ok 4)" ∷ "(1 port 4)" ⇒ "(ok 5)" ∷ "(1 ask 5 (4 8))" ⇒ "(no 3)" ∷ [];
    }
    ∷ record {
      name = "depth 12 accepted, 13 gives 15";
      opening = loop;
      opened = "(ok 0)";
      calls =
          "(1 hold 1)" ⇒ "(ok 2)"
          ∷ "(1 go 2)" ⇒ "(ok 0)"
          ∷ "(1 hold 1)" ⇒ "(ok 3)"
          ∷ "(1 go 3)" ⇒ "(ok 0)"
          ∷ "(1 hold 1)" ⇒ "(ok 4)"
          ∷ "(1 go 4)" ⇒ "(ok 0)"
          ∷ "(1 hold 1)" ⇒ "(ok 5)"
          ∷ "(1 go 5)" ⇒ "(ok 0)"
          ∷ "(1 hold 1)" ⇒ "(ok 6)"
          ∷ "(1 go 6)" ⇒ "(ok 0)"
          ∷ "(1 hold 1)" ⇒ "(ok 7)"
          ∷ "(1 go 7)" ⇒ "(ok 0)"
          ∷ "(1 hold 1)" ⇒ "(ok 8)"
          ∷ "(1 go 8)" ⇒ "(ok 0)"
          ∷ "(1 hold 1)" ⇒ "(ok 9)"
          ∷ "(1 go 9)" ⇒ "(ok 0)"
          ∷ "(1 hold 1)" ⇒ "(ok 10)"
          ∷ "(1 go 10)" ⇒ "(ok 0)"
          ∷ "(1 hold 1)" ⇒ "(ok 11)"
          ∷ "(1 go 11)" ⇒ "(ok 0)"
          ∷ "(1 hold 1)" ⇒ "(ok 12)"
          ∷ "(1 go 12)" ⇒ "(ok 0)"
          ∷ "(1 hold 1)" ⇒ "(no 15)"
          ∷ [];
    }
    ∷ record {
      name = "four items accepted, five give 6; one item twice gives 4; an empty ask accepted";
      opening = registry;
      opened = "(ok 0)";
      calls =
          "(1 hold 1)" ⇒ "(ok 4)"
          ∷ "(1 hold 1)" ⇒ "(ok 5)"
          ∷ "(1 hold 1)" ⇒ "(ok 6)"
          ∷ "(1 hold 1)" ⇒ "(ok 7)"
          ∷ "(1 hold 1)" ⇒ "(ok 8)"
          ∷ "(1 port 4)" ⇒ "(ok 9)"
          ∷ "(1 ask 9 (4 7) (5 7) (6 7) (7 7) (8 7))" ⇒ "(no 6)"
          ∷ "(1 ask 9 (4 7) (5 7) (4 3))" ⇒ "(no 4)"
          ∷ "(1 ask 9 (4 7) (5 7) (6 7) (7 7))" ⇒ "(ok 11)"
          ∷ "(2 fetch 10)" ⇒ "(ok 11 12 13 14 15)"
          ∷ "(2 answer 10 1)" ⇒ "(ok 0)"
          ∷ "(1 ask 9)" ⇒ "(ok 16)"
          ∷ [];
    }
    ∷ record {
      name = "revoke by another process gives 7; a second revoke gives 7";
      opening = registry;
      opened = "(ok 0)";
      calls =
          "(1 hold 1)" ⇒ "(ok 4)"
          ∷ "(1 port 4)" ⇒ "(ok 5)"
          ∷ "(1 ask 5 (4 7))" ⇒ "(ok 7)"
          ∷ "(2 revoke 7)" ⇒ "(no 7)"
          ∷ "(1 revoke 7)" ⇒ "(ok 0)"
          ∷ "(1 revoke 7)" ⇒ "(no 7)"
          ∷ [];
    }
    ∷ record {
      name = "drop of a row with a copy out gives 13; without, it is accepted";
      opening = registry;
      opened = "(ok 0)";
      calls =
          "(1 hold 1)" ⇒ "(ok 4)"
          ∷ "(1 hold 1)" ⇒ "(ok 5)"
          ∷ "(1 port 5)" ⇒ "(ok 6)"
          ∷ "(1 ask 6 (4 7))" ⇒ "(ok 8)"
          ∷ "(1 drop 4)" ⇒ "(no 13)"
          ∷ "(1 revoke 8)" ⇒ "(ok 0)"
          ∷ "(1 drop 4)" ⇒ "(ok 0)"
          ∷ "(1 drop 4)" ⇒ "(no 7)"
          ∷ [];
    }
    ∷ record {
      name = "answer with 1 while a lent end's port has an open request gives 10; afterwards it is accepted";
      opening = offices;
      opened = "(ok 0)";
      calls =
          "(1 hold 1)" ⇒ "(ok 7)"
          ∷ "(1 port 7)" ⇒ "(ok 8)"
          ∷ "(1 hold 2)" ⇒ "(ok 10)"
          ∷ "(1 port 10)" ⇒ "(ok 11)"
          ∷ "(1 ask 8 (11 0))" ⇒ "(ok 13)"
          ∷ "(2 fetch 9)" ⇒ "(ok 13 11)"
          ∷ "(2 ask 11)" ⇒ "(ok 14)"
          ∷ "(2 answer 9 1)" ⇒ "(no 10)"
          ∷ "(3 fetch 12)" ⇒ "(ok 14)"
          ∷ "(3 answer 12 1)" ⇒ "(ok 0)"
          ∷ "(2 answer 9 1)" ⇒ "(ok 0)"
          ∷ "(1 close 11)" ⇒ "(ok 0)"
          ∷ [];
    }
    ∷ []

-- the readings that the customer calls wrong (rules C5, C11, hold-12), and the order of refusals (rule F8)
unfoldable pub misreadings : List Case
misreadings =
    record {
      name = "what was received over a borrowed port stays";
      opening = offices;
      opened = "(ok 0)";
      calls =
          "(1 hold 1)" ⇒ "(ok 7)"
          ∷ "(1 port 7)" ⇒ "(ok 8)"
          ∷ "(1 hold 2)" ⇒ "(ok 10)"
          ∷ "(1 port 10)" ⇒ "(ok 11)"
          -- 1 lends the server end of its port 8 to 3; 1 lends its row 7 over port 8 to whoever serves it, 3
          ∷ "(2 hold 4)" ⇒ "(ok 13)"
          ∷ "(2 port 13)" ⇒ "(ok 14)"
          ∷ "(2 ask 14 (9 0))" ⇒ "(ok 16)"
          ∷ "(3 fetch 15)" ⇒ "(ok 16 9)"
          ∷ "(1 ask 8 (7 3))" ⇒ "(ok 17)"
          ∷ "(3 fetch 9)" ⇒ "(ok 17 18)"
          ∷ "(comes 18 16)" ⇒ "(ok 0)"
          ∷ "(2 revoke 16)" ⇒ "(ok 0)"
          ∷ "(comes 18 17)" ⇒ "(ok 1)"
          ∷ "(3 port 18)" ⇒ "(ok 19)"
          ∷ "(3 fetch 9)" ⇒ "(no 7)"
          ∷ "(2 answer 9 1)" ⇒ "(ok 0)"
          ∷ "(3 ask 19)" ⇒ "(no 7)"
          ∷ [];
    }
    ∷ record {
      name = "an end lent twice goes back to its first lender when the first loan is closed";
      opening = offices;
      opened = "(ok 0)";
      calls =
          "(1 hold 1)" ⇒ "(ok 7)"
          ∷ "(1 port 7)" ⇒ "(ok 8)"
          ∷ "(1 hold 2)" ⇒ "(ok 10)"
          ∷ "(1 port 10)" ⇒ "(ok 11)"
          ∷ "(2 hold 4)" ⇒ "(ok 13)"
          ∷ "(2 port 13)" ⇒ "(ok 14)"
          -- 1 lends the client end 11 to 2, and 2 lends it to 3
          ∷ "(1 ask 8 (11 0))" ⇒ "(ok 16)"
          ∷ "(2 fetch 9)" ⇒ "(ok 16 11)"
          ∷ "(2 ask 14 (11 0))" ⇒ "(ok 17)"
          ∷ "(3 fetch 15)" ⇒ "(ok 17 11)"
          ∷ "(1 close 11)" ⇒ "(no 7)"
          ∷ "(1 revoke 16)" ⇒ "(ok 0)"
          ∷ "(2 ask 11)" ⇒ "(no 7)"
          ∷ "(3 ask 11)" ⇒ "(no 7)"
          ∷ "(1 ask 11)" ⇒ "(ok 18)"
          ∷ "(3 answer 15 1)" ⇒ "(ok 0)"
          ∷ "(1 close 11)" ⇒ "(ok 0)"
          ∷ [];
    }
    ∷ record {
      name = "an end lent twice goes back to its second lender when the second loan is closed";
      opening = offices;
      opened = "(ok 0)";
      calls =
          "(1 hold 1)" ⇒ "(ok 7)"
          ∷ "(1 port 7)" ⇒ "(ok 8)"
          ∷ "(1 hold 2)" ⇒ "(ok 10)"
          ∷ "(1 port 10)" ⇒ "(ok 11)"
          ∷ "(2 hold 4)" ⇒ "(ok 13)"
          ∷ "(2 port 13)" ⇒ "(ok 14)"
          ∷ "(1 ask 8 (11 0))" ⇒ "(ok 16)"
          ∷ "(2 fetch 9)" ⇒ "(ok 16 11)"
          ∷ "(2 ask 14 (11 0))" ⇒ "(ok 17)"
          ∷ "(3 fetch 15)" ⇒ "(ok 17 11)"
          ∷ "(2 revoke 17)" ⇒ "(ok 0)"
          ∷ "(1 ask 11)" ⇒ "(no 7)"
          ∷ "(2 ask 11)" ⇒ "(ok 18)"
          ∷ [];
    }
    ∷ record {
      name = "an end lent on over a port that goes with the loan goes to the lender of the oldest request closed";
      opening = offices;
      opened = "(ok 0)";
      calls =
          "(1 hold 1)" ⇒ "(ok 7)"
          ∷ "(1 port 7)" ⇒ "(ok 8)"
          ∷ "(1 hold 2)" ⇒ "(ok 10)"
          ∷ "(1 port 10)" ⇒ "(ok 11)"
          -- 1 lends the end 11 and the operation 10 to 2; 2 makes port 15 from the copy 14 and lends 11 on over it
          ∷ "(1 ask 8 (11 0) (10 3))" ⇒ "(ok 13)"
          ∷ "(2 fetch 9)" ⇒ "(ok 13 11 14)"
          ∷ "(2 port 14)" ⇒ "(ok 15)"
          ∷ "(2 ask 15 (11 0))" ⇒ "(ok 17)"
          ∷ "(3 fetch 16)" ⇒ "(ok 17 11)"
          ∷ "(1 revoke 13)" ⇒ "(ok 0)"
          ∷ "(2 revoke 17)" ⇒ "(no 7)"
          ∷ "(3 ask 11)" ⇒ "(no 7)"
          ∷ "(2 ask 11)" ⇒ "(no 7)"
          ∷ "(1 ask 11)" ⇒ "(ok 18)"
          ∷ [];
    }
    ∷ record {
      name = "a borrower of a subdirectory may not take the subdirectories in it";
      opening = offices;
      opened = "(ok 0)";
      calls =
          "(1 hold 3)" ⇒ "(ok 7)"
          ∷ "(1 hold 1)" ⇒ "(ok 8)"
          ∷ "(1 port 8)" ⇒ "(ok 9)"
          ∷ "(1 ask 9 (7 7))" ⇒ "(ok 11)"
          ∷ "(2 fetch 10)" ⇒ "(ok 11 12)"
          ∷ "(2 go 12)" ⇒ "(ok 0)"
          ∷ "(2 hold 6)" ⇒ "(no 12)"
          ∷ "(2 hold 4)" ⇒ "(ok 13)"
          ∷ "(1 go 7)" ⇒ "(ok 0)"
          ∷ "(1 hold 6)" ⇒ "(ok 14)"
          ∷ [];
    }
    ∷ record {
      name = "the lowest refusal that applies: 7 before 8, 2 before 3, 3 before 4, 4 before 5, 5 before 6";
      opening = registry;
      opened = "(ok 0)";
      calls =
          "(1 hold 1)" ⇒ "(ok 4)"
          ∷ "(2 go 4)" ⇒ "(no 7)"
          ∷ "(1 go 4)" ⇒ "(no 8)"
          ∷ "(2 close 4)" ⇒ "(no 7)"
          ∷ "(65 hold 01)" ⇒ "(no 2)"
          ∷ "(65 ask 5 (4 1) (4 1))" ⇒ "(no 3)"
          ∷ "(9 ask 5 (4 1) (4 1))" ⇒ "(no 4)"
          ∷ "(9 ask 5 (4 1) (5 1) (6 1) (7 1) (8 1))" ⇒ "(no 5)"
          ∷ "(1 ask 5 (4 1) (5 1) (6 1) (7 1) (8 1))" ⇒ "(no 6)"
          ∷ [];
    }
    -- (rules R15, chain-7, chain-ok)
    ∷ record {
      name = "a chain follows first sources alone, the oldest row first and the row itself last; a registered row's is its directory row";
      opening = offices;
      opened = "(ok 0)";
      calls =
          "(1 hold 3)" ⇒ "(ok 7)"
          ∷ "(1 go 7)" ⇒ "(ok 0)"
          -- 8 is taken from 4, through 7
          ∷ "(1 hold 4)" ⇒ "(ok 8)"
          ∷ "(1 register 8)" ⇒ "(ok 9)"
          ∷ "(1 port 8)" ⇒ "(ok 10)"
          -- 13 is a copy of 8, lent over 10
          ∷ "(1 ask 10 (8 3))" ⇒ "(ok 12)"
          ∷ "(chain 4)" ⇒ "(ok 4)"
          ∷ "(chain 7)" ⇒ "(ok 3 7)"
          ∷ "(chain 8)" ⇒ "(ok 4 8)"
          ∷ "(chain 9)" ⇒ "(ok 4 9)"
          ∷ "(chain 11)" ⇒ "(ok 4 8 11)"
          ∷ "(chain 13)" ⇒ "(ok 4 8 13)"
          ∷ "(chain 12)" ⇒ "(no 7)"
          ∷ "(chain 14)" ⇒ "(no 7)"
          ∷ "(chain 0)" ⇒ "(no 3)"
          ∷ "(1 chain 8)" ⇒ "(no 2)"
          ∷ "(chain 8 9)" ⇒ "(no 2)"
          ∷ "(1 drop 7)" ⇒ "(no 13)"
          ∷ [];
    }
    -- (rules F3, F4, F7, T7, comesall-ok-1, comesall-ok-2, comesall-ok-3)
    ∷ record {
      name = "a comesall tells of each pair what comes tells, in its place, `-` where comes is 7; 16 pairs at most";
      opening = offices;
      opened = "(ok 0)";
      calls =
          "(1 hold 1)" ⇒ "(ok 7)"
          ∷ "(1 port 7)" ⇒ "(ok 8)"
          ∷ "(1 port 7)" ⇒ "(ok 10)"
          -- 13 is a copy of 7; the end 10 is on loan
          ∷ "(1 ask 8 (7 3) (10 0))" ⇒ "(ok 12)"
          ∷ "(comesall (13 12) (7 12) (10 12))" ⇒ "(ok 1 0 0)"
          ∷ "(2 fetch 9)" ⇒ "(ok 12 13 10)"
          ∷ "(2 port 13)" ⇒ "(ok 14)"
          ∷ "(2 hold 5)" ⇒ "(ok 16)"
          -- 18 is a copy of 16, lent over 14, which comes from 12
          ∷ "(2 ask 14 (16 1))" ⇒ "(ok 17)"
          ∷ "(comesall (18 12) (16 12) (18 17) (15 12))" ⇒ "(ok 1 0 1 1)"
          ∷ "(comesall (19 12) (18 12) (7 10) (18 17))" ⇒ "(ok - 1 - 1)"
          ∷ "(comesall (12 13))" ⇒ "(ok -)"
          ∷ "(comesall (7 12) (7 12) (7 12) (7 12) (7 12) (7 12) (7 12) (7 12) (7 12) (7 12) (7 12) (7 12) (7 12) (7 12) (7 12) (18 12))" ⇒ "(ok 0 0 0 0 0 0 0 0 0 0 0 0 0 0 0 1)"
          ∷ "(comesall (7 12) (7 12) (7 12) (7 12) (7 12) (7 12) (7 12) (7 12) (7 12) (7 12) (7 12) (7 12) (7 12) (7 12) (7 12) (7 12) (7 12))" ⇒ "(no 6)"
          ∷ "(comesall (7 12) (7 12) (7 12) (7 12) (7 12) (7 12) (7 12) (7 12) (7 12) (7 12) (7 12) (7 12) (7 12) (7 12) (7 12) (7 12) (0 12))" ⇒ "(no 3)"
          ∷ "(comesall (7 0))" ⇒ "(no 3)"
          ∷ "(comesall (4294967295 12))" ⇒ "(no 3)"
          ∷ "(comesall)" ⇒ "(no 2)"
          ∷ "(1 comesall (7 12))" ⇒ "(no 2)"
          ∷ "(1 revoke 12)" ⇒ "(ok 0)"
          ∷ "(comesall (13 12) (7 12))" ⇒ "(ok - -)"
          ∷ [];
    }
    ∷ []

-- (rules K7, O8, O12, O14, O15, O17) the openings that are refused: number and line
unfoldable pub openings : List Case
openings =
    record { name = "5 at its line, after 2, 3, 4 and 6 of any line"; opening = "(node 1 (op 9 1 1))" ∷ "(process 1 2)" ∷ "(open)" ∷ []; opened = "(no 5 1)"; calls = [] }
    ∷ record { name = "6 of a later line before 5"; opening = "(process 1 2)" ∷ "(node 1 (dir 1 0) (dir 1 0) (dir 1 0) (dir 1 0) (dir 1 0) (dir 1 0) (dir 1 0) (dir 1 0) (dir 1 0) (dir 1 0) (dir 1 0) (dir 1 0) (dir 1 0) (dir 1 0) (dir 1 0) (dir 1 0) (dir 1 0))" ∷ "(open)" ∷ []; opened = "(no 6 2)"; calls = [] }
    ∷ record { name = "4 at the second form"; opening = "(process 1 1)" ∷ "(node 1)" ∷ "(process 1 1)" ∷ "(open)" ∷ []; opened = "(no 4 3)"; calls = [] }
    ∷ record { name = "no (open): 2 at the line after the last"; opening = "(node 1)" ∷ []; opened = "(no 2 2)"; calls = [] }
    ∷ record { name = "an empty text"; opening = []; opened = "(no 2 1)"; calls = [] }
    ∷ record { name = "(open) alone"; opening = "(open)" ∷ []; opened = "(ok 0)"; calls = "(1 go 0)" ⇒ "(no 5)" ∷ "(comes 1 2)" ⇒ "(no 7)" ∷ [] }
    ∷ []

-- every case, by computation
pub starred-cases : T (all passes starred)
unfolding ◌⇒◌ lines_bytes call_bytes answer_bytes passes registry offices loop starred Rattle.rows.specs.Computes.computes Rattle.closing.specs.Computes.computes Rattle.calls.specs.Computes.computes Rattle.text.specs.Computes.computes
starred-cases = tt

pub wrong-readings : T (all passes misreadings)
unfolding ◌⇒◌ lines_bytes call_bytes answer_bytes passes registry offices loop misreadings Rattle.rows.specs.Computes.computes Rattle.closing.specs.Computes.computes Rattle.calls.specs.Computes.computes Rattle.text.specs.Computes.computes
wrong-readings = tt

pub refused-openings : T (all passes openings)
unfolding ◌⇒◌ lines_bytes call_bytes answer_bytes passes registry offices loop openings Rattle.rows.specs.Computes.computes Rattle.closing.specs.Computes.computes Rattle.calls.specs.Computes.computes Rattle.text.specs.Computes.computes
refused-openings = tt
