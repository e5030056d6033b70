-- What is not promised: of each statement that one might take for promised, a session that breaks it. The manual says what an office does about it.
use Rattle.std.specs.Prelude.{List, [], ◌∷◌, T}
use Rattle.rows.specs.Lists.{all}
use Rattle.history.specs.tests.Cases.{◌⇒◌, Case, lines_bytes, call_bytes, answer_bytes, passes}

unfoldable pub neighbours : List Case
neighbours =
    -- (rule N1)
    record {
      name = "what is held through a lent subdirectory has no more rights than the lent copy";
      opening = "(node 1 (op 2 0 7) (dir 2 7))" ∷ "(node 2 (op 3 0 7))" ∷ "(process 1 1)" ∷ "(process 2 1)" ∷ "(process 3 1)" ∷ "(open)" ∷ [];
      opened = "(ok 0)";
      calls =
          "(1 hold 1)" ⇒ "(ok 4)" ∷ "(1 hold 2)" ⇒ "(ok 5)" ∷ "(1 port 4)" ⇒ "(ok 6)" ∷ "(1 ask 6 (5 0))" ⇒ "(ok 8)"
          ∷ "(2 fetch 7)" ⇒ "(ok 8 9)" ∷ "(2 go 9)" ⇒ "(ok 0)" ∷ "(2 hold 3)" ⇒ "(ok 10)" ∷ "(2 port 10)" ⇒ "(ok 11)"
          ∷ "(2 ask 11 (10 7))" ⇒ "(ok 13)" ∷ "(3 fetch 12)" ⇒ "(ok 13 14)"
          ∷ [];
    }
    -- (rule N2)
    ∷ record {
      name = "what is lent without transfer serves nobody but the borrower";
      opening = "(node 1 (op 2 0 7) (op 3 0 7))" ∷ "(process 1 1)" ∷ "(process 2 1)" ∷ "(process 3 1)" ∷ "(open)" ∷ [];
      opened = "(ok 0)";
      calls =
          "(1 hold 1)" ⇒ "(ok 3)" ∷ "(1 port 3)" ⇒ "(ok 4)" ∷ "(1 ask 4 (3 0))" ⇒ "(ok 6)" ∷ "(2 fetch 5)" ⇒ "(ok 6 7)"
          ∷ "(2 hold 2)" ⇒ "(ok 8)" ∷ "(2 port 7)" ⇒ "(ok 9)" ∷ "(2 port 8)" ⇒ "(ok 11)" ∷ "(2 ask 11 (7 0))" ⇒ "(no 9)"
          ∷ "(2 ask 11 (9 0))" ⇒ "(ok 13)" ∷ "(3 fetch 12)" ⇒ "(ok 13 9)" ∷ "(3 ask 9)" ⇒ "(ok 14)"
          ∷ [];
    }
    -- (rule N3)
    ∷ record {
      name = "with a server end goes what was fetched over it";
      opening = "(node 1 (op 1 0 7) (op 2 0 7))" ∷ "(process 1 1)" ∷ "(process 2 1)" ∷ "(process 3 1)" ∷ "(open)" ∷ [];
      opened = "(ok 0)";
      calls =
          "(3 hold 1)" ⇒ "(ok 3)" ∷ "(3 port 3)" ⇒ "(ok 4)" ∷ "(1 hold 2)" ⇒ "(ok 6)" ∷ "(1 port 6)" ⇒ "(ok 7)"
          ∷ "(1 ask 7 (5 0))" ⇒ "(ok 9)" ∷ "(2 fetch 8)" ⇒ "(ok 9 5)" ∷ "(3 ask 4 (3 7))" ⇒ "(ok 10)" ∷ "(2 fetch 5)" ⇒ "(ok 10 11)"
          ∷ "(1 revoke 9)" ⇒ "(ok 0)" ∷ "(2 port 11)" ⇒ "(ok 12)" ∷ "(1 answer 5 0)" ⇒ "(ok 0)" ∷ "(2 port 11)" ⇒ "(no 7)"
          ∷ [];
    }
    -- (rule N4)
    ∷ record {
      name = "with a client end goes the borrower's request on it";
      opening = "(node 1 (op 2 0 7))" ∷ "(process 1 1)" ∷ "(process 2 1)" ∷ "(open)" ∷ [];
      opened = "(ok 0)";
      calls =
          "(1 hold 1)" ⇒ "(ok 2)" ∷ "(1 port 2)" ⇒ "(ok 3)" ∷ "(1 port 2)" ⇒ "(ok 5)" ∷ "(1 ask 5 (3 0))" ⇒ "(ok 7)"
          ∷ "(2 fetch 6)" ⇒ "(ok 7 3)" ∷ "(2 ask 3)" ⇒ "(ok 8)" ∷ "(1 revoke 7)" ⇒ "(ok 0)" ∷ "(1 ask 3)" ⇒ "(no 10)"
          ∷ "(1 revoke 8)" ⇒ "(no 7)" ∷ "(1 close 3)" ⇒ "(ok 0)"
          ∷ [];
    }
    -- (rule N5)
    ∷ record {
      name = "a lent subdirectory is read-only";
      opening = "(node 1 (op 2 0 7) (dir 2 7))" ∷ "(node 2)" ∷ "(node 3 (op 1 0 7))" ∷ "(process 1 1)" ∷ "(process 2 3)" ∷ "(open)" ∷ [];
      opened = "(ok 0)";
      calls =
          "(1 hold 1)" ⇒ "(ok 4)" ∷ "(1 hold 2)" ⇒ "(ok 5)" ∷ "(1 port 4)" ⇒ "(ok 6)" ∷ "(1 ask 6 (5 0))" ⇒ "(ok 8)"
          ∷ "(2 fetch 7)" ⇒ "(ok 8 9)" ∷ "(2 hold 3)" ⇒ "(ok 10)" ∷ "(2 go 9)" ⇒ "(ok 0)" ∷ "(2 register 10)" ⇒ "(ok 11)"
          ∷ "(1 revoke 8)" ⇒ "(ok 0)" ∷ "(1 go 5)" ⇒ "(ok 0)" ∷ "(1 hold 11)" ⇒ "(ok 12)"
          ∷ [];
    }
    -- (rule N6)
    ∷ record {
      name = "the maker of a port may always close it";
      opening = "(node 1 (op 2 0 7))" ∷ "(process 1 1)" ∷ "(process 2 1)" ∷ "(open)" ∷ [];
      opened = "(ok 0)";
      calls =
          "(1 hold 1)" ⇒ "(ok 2)" ∷ "(1 port 2)" ⇒ "(ok 3)" ∷ "(1 port 2)" ⇒ "(ok 5)" ∷ "(1 ask 5 (3 0))" ⇒ "(ok 7)"
          ∷ "(1 close 3)" ⇒ "(no 7)" ∷ "(2 fetch 6)" ⇒ "(ok 7 3)" ∷ "(1 close 3)" ⇒ "(no 7)" ∷ "(2 close 3)" ⇒ "(no 12)"
          ∷ "(1 revoke 7)" ⇒ "(ok 0)" ∷ "(1 close 3)" ⇒ "(ok 0)"
          ∷ [];
    }
    -- (rule N7)
    ∷ record {
      name = "a process can free all its room";
      opening = "(node 1 (op 2 0 7))" ∷ "(process 1 1)" ∷ "(process 2 1)" ∷ "(open)" ∷ [];
      opened = "(ok 0)";
      calls =
          "(1 hold 1)" ⇒ "(ok 2)" ∷ "(1 port 2)" ⇒ "(ok 3)" ∷ "(2 drop 4)" ⇒ "(no 8)" ∷ "(2 close 4)" ⇒ "(no 8)"
          ∷ [];
    }
    -- (rule N8)
    ∷ record {
      name = "who borrowed nothing has nothing that comes from a loan";
      opening = "(node 1 (op 2 1 7) (op 3 1 7))" ∷ "(process 1 1)" ∷ "(process 2 1)" ∷ "(process 3 1)" ∷ "(open)" ∷ [];
      opened = "(ok 0)";
      calls =
          "(1 hold 1)" ⇒ "(ok 3)" ∷ "(1 hold 2)" ⇒ "(ok 4)" ∷ "(1 port 3)" ⇒ "(ok 5)" ∷ "(1 ask 5 (4 1))" ⇒ "(ok 7)"
          ∷ "(2 fetch 6)" ⇒ "(ok 7 8)" ∷ "(2 port 8)" ⇒ "(ok 9)" ∷ "(comes 10 7)" ⇒ "(ok 1)" ∷ "(3 fetch 10)" ⇒ "(no 11)"
          ∷ [];
    }
    -- (rule N8)
    ∷ record {
      name = "no subdirectory of a c-list comes from a row held through a lent one";
      opening = "(node 1 (op 2 0 7) (dir 1 7))" ∷ "(process 1 1)" ∷ "(process 2 1)" ∷ "(open)" ∷ [];
      opened = "(ok 0)";
      calls =
          "(1 hold 1)" ⇒ "(ok 3)" ∷ "(1 hold 2)" ⇒ "(ok 4)" ∷ "(1 port 3)" ⇒ "(ok 5)" ∷ "(1 ask 5 (4 0))" ⇒ "(ok 7)"
          ∷ "(2 fetch 6)" ⇒ "(ok 7 8)" ∷ "(2 hold 2)" ⇒ "(ok 9)" ∷ "(2 go 8)" ⇒ "(ok 0)" ∷ "(2 hold 1)" ⇒ "(ok 10)"
          ∷ "(2 port 10)" ⇒ "(ok 11)" ∷ "(2 ask 11 (9 7))" ⇒ "(ok 13)" ∷ "(comes 9 7)" ⇒ "(ok 0)" ∷ "(comes 14 7)" ⇒ "(ok 1)"
          ∷ [];
    }
    -- (rule N9)
    ∷ record {
      name = "what others do with its copies changes no answer to a lender";
      opening = "(node 1 (op 2 0 7))" ∷ "(process 1 1)" ∷ "(process 2 1)" ∷ "(open)" ∷ [];
      opened = "(ok 0)";
      calls =
          "(1 hold 1)" ⇒ "(ok 2)" ∷ "(1 hold 1)" ⇒ "(ok 3)" ∷ "(1 port 2)" ⇒ "(ok 4)" ∷ "(1 ask 4 (3 7))" ⇒ "(ok 6)"
          ∷ "(2 fetch 5)" ⇒ "(ok 6 7)" ∷ "(1 drop 3)" ⇒ "(no 13)" ∷ "(2 drop 7)" ⇒ "(ok 0)" ∷ "(1 drop 3)" ⇒ "(ok 0)"
          ∷ [];
    }
    -- (rule N9)
    ∷ record {
      name = "what others do with an end lent on changes no answer to a borrower";
      opening = "(node 1 (op 2 0 7) (op 3 0 7))" ∷ "(process 1 1)" ∷ "(process 2 1)" ∷ "(process 3 1)" ∷ "(open)" ∷ [];
      opened = "(ok 0)";
      calls =
          "(1 hold 1)" ⇒ "(ok 3)" ∷ "(2 hold 2)" ⇒ "(ok 4)" ∷ "(1 port 3)" ⇒ "(ok 5)" ∷ "(1 port 3)" ⇒ "(ok 7)"
          ∷ "(2 port 4)" ⇒ "(ok 9)" ∷ "(1 ask 5 (7 0))" ⇒ "(ok 11)" ∷ "(2 fetch 6)" ⇒ "(ok 11 7)" ∷ "(2 ask 9 (7 0))" ⇒ "(ok 12)"
          ∷ "(3 fetch 10)" ⇒ "(ok 12 7)" ∷ "(2 answer 6 1)" ⇒ "(no 14)" ∷ "(3 ask 7)" ⇒ "(ok 13)" ∷ "(2 answer 6 1)" ⇒ "(no 10)"
          ∷ [];
    }
    -- (rule N9)
    ∷ record {
      name = "only its holder can ask of a row what it comes from";
      opening = "(node 1 (op 2 0 7))" ∷ "(process 1 1)" ∷ "(process 2 1)" ∷ "(open)" ∷ [];
      opened = "(ok 0)";
      calls =
          "(1 hold 1)" ⇒ "(ok 2)" ∷ "(1 port 2)" ⇒ "(ok 3)" ∷ "(1 ask 3 (2 7))" ⇒ "(ok 5)" ∷ "(2 fetch 4)" ⇒ "(ok 5 6)"
          ∷ "(2 port 6)" ⇒ "(ok 7)" ∷ "(comes 7 5)" ⇒ "(ok 1)" ∷ "(2 close 7)" ⇒ "(ok 0)" ∷ "(comes 7 5)" ⇒ "(no 7)"
          ∷ [];
    }
    -- (rule N11)
    ∷ record {
      name = "the numbers of a process tell it nothing of others";
      opening = "(node 1 (op 2 0 7))" ∷ "(process 1 1)" ∷ "(process 2 1)" ∷ "(open)" ∷ [];
      opened = "(ok 0)";
      calls =
          "(1 hold 1)" ⇒ "(ok 2)" ∷ "(2 hold 1)" ⇒ "(ok 3)" ∷ "(2 hold 1)" ⇒ "(ok 4)" ∷ "(1 hold 1)" ⇒ "(ok 5)"
          ∷ [];
    }
    ∷ []

-- none of them holds
pub not-promised : T (all passes neighbours)
unfolding ◌⇒◌ lines_bytes call_bytes answer_bytes passes neighbours Rattle.rows.specs.Computes.computes Rattle.closing.specs.Computes.computes Rattle.calls.specs.Computes.computes Rattle.text.specs.Computes.computes
not-promised = tt
