-- Laws of the calls' code. One line a file:
-- what the look-ups find: slots, source words, depths
pub mod LookedUp
-- a row more: its sources from their words, a copy, the ends of a port
pub mod NewRows
-- the state after go, hold, register and port
pub mod Added
-- rows that go to a place: one item, and one after the other; the open request in its slot
pub mod Handed
-- a call that is refused and one that is not: answer, words, records
pub mod Judging
-- the tests of hold, register and port after the look-up
pub mod Refusing
-- what the effect of each call leaves, as its function answers it
pub mod Effected
-- the answer of chain, read off the words written
pub mod Chained
-- what is told of pairs
pub mod PairsTold
-- whether a row is a source of another: the loop over all rows
pub mod Used
-- tests of several items joined
pub mod Joined
-- the ends that a request lists: busy, away; the tests of answer
pub mod LentEnds
-- items lent one after the other: slots kept, an end, a copy, all items
pub mod Lent
-- the items of an ask with their rows looked up; the tests of ask
pub mod Asked
-- a refused call changes nothing; a call by its own function
pub mod Carried
