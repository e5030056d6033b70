-- Laws of closing. One line a file:
-- laws of keyed lists and of trimmed items that the files below use
pub mod TrimmedLists
-- what sound tables tell of one row and of one open request
pub mod Facts
-- what is removed: the seeds, and each row with a removed source
pub mod RemovedRows
-- look-up in the rows and requests that closing leaves
pub mod Lookups
-- the process records that closing leaves
pub mod Processes
-- marks of slots: at the slot of a number, and one more
pub mod ListsMarks
-- the items of a closed request go back
pub mod ListsBack
-- items of an open request leave its list
pub mod ListsOut
-- the pass over the requests: one more is done
pub mod ListsPass
-- the pass, and then what is marked removed: what closing leaves
pub mod ListsSettled
-- a pass that marks one slot more, over any list
pub mod MarksPass
-- the marks of the rows that a closing removes
pub mod MarksRows
-- the marks of the requests that close
pub mod MarksRequests
-- process records that go home: one, and the loop over a run of them
pub mod HomesAll
-- the parts of a closing joined
pub mod CloseParts
