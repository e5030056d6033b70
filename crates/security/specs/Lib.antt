-- The security theorems as statements about every session. In reading order, a line a file:
-- sessions: an accepted opening, then accepted calls; who fetched which request
pub mod Sessions
-- what a call does, row by row and request by request: what goes, what stays and where
pub mod Changes
-- authority moves only by the rules
pub mod Authority
-- a number that is gone is never again given
pub mod Numbers
-- rows of nodes stay; ports have both ends or none
pub mod Nodes
-- where everything is, at all times
pub mod Places
-- rights never grow
pub mod Rights
-- what a borrower has
pub mod Borrowers
-- the nodes that a process can come to
pub mod Reach
-- revocation is never blocked; room comes back
pub mod Revocation
-- what a process is answered is decided by what it can see
pub mod Isolation
-- what the history has on loan is what its words say
pub mod OnLoan
-- who has each row, by the history
pub mod Holders
-- all of them, by name
pub mod Security
pub mod Computes
pub mod tests
