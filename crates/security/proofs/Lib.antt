-- The proofs of the security theorems. In reading order, a line a file:
-- an accepted call had its effect; what an opening has and every accepted call keeps, every session has
pub mod Sessions
-- a line: refused, or an allowed call that has its effect
pub mod Lines
-- the states that sessions reach are those after any lines, by the entry points on words
pub mod Entries
-- calls that close: what is removed, and what closes with it
pub mod Closings
-- one row of sound tables: the five kinds; the request open on a port
pub mod Rows
-- the effects of accepted calls, of six kinds
pub mod Effects
-- what a call touches, by the kinds of effects
pub mod Touches
-- the rows that a call makes
pub mod NewRows
-- authority moves only by the rules
pub mod Moves
-- these laws for an accepted call
pub mod Steps
-- rows of nodes stay; ports have both ends or none
pub mod Nodes
-- numbers are never given again
pub mod Numbers
-- where everything is: by the requests that list a row; then of every session
pub mod Listers
-- the tables that an opening leaves
pub mod Opened
-- what a call leaves of one row
pub mod Frames
-- where everything is, at all times
pub mod Places
pub mod PlacesKept
-- laws of every row of a session: what hangs on a loan; rights, roots, copies, held rows
pub mod RowLaws
pub mod Borne
pub mod Derived
-- rights never grow
pub mod Rights
-- what a borrower has
pub mod Borrowers
-- the nodes that a process can come to
pub mod Reach
pub mod ReachLaw
-- revocation is never blocked; room comes back
pub mod Revocation
pub mod Room
-- isolation: what equal views tell; each call by its tests
pub mod Seen
pub mod Alike
pub mod Isolation
-- what the history has on loan is what its words say
pub mod OnLoan
-- who has each row, by the history: the marks of requests and the log
pub mod Logged
pub mod Homes
pub mod Holders
-- all of them, by name
pub mod Security
