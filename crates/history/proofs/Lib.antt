-- Demand 3 and kept soundness, proved of the definitions. In reading order, a line a file:

-- ---- what is shown
-- every promise of docs/ASSURANCE.md, of this crate and of those below it
pub mod Promises
-- demand 3 over the entry points on words: Along, then the three parts
pub mod Demand3
-- kept soundness on words; `session` is what the entry points reply
pub mod Kept
-- what `chain` answers, by the history
pub mod ChainTold
-- what `comes` answers, by the history
pub mod ComesTold
-- what `comesall` answers, by the single question
pub mod PairsTold
-- rows of nodes never vanish; the rights of a copy are within those of its row
pub mod Laws
-- ---- the history by itself
-- what holds of every history of a session
pub mod Fit
-- what a sweep of the notes leaves
pub mod Sweep
-- what is dropped or closed takes with it every row whose chain uses it
pub mod Gone
-- to stand, computed, is to have no chain that uses anything dropped or closed
pub mod Standing
-- comes from, computed in one pass over the notes, is what the word means
pub mod Comes
-- ---- history and tables, call by call
-- the invariants: Inv (rows, requests, gone through) and Lends (ends on loan)
pub mod Inv
-- rows of the tables as the history notes them
pub mod View
-- the first chain of a row: its rows, and the answer that holds them
pub mod FirstChains
-- the values of what comesall answers
pub mod PairValues
-- every property of every answer: refusals have it, and the effects of calls that are allowed
pub mod Allowed
-- what a refusal and an accepted answer leave of the invariant
pub mod Keeps
-- a row more, in tables and history
pub mod Added
-- rows found in the tables, as the history has them
pub mod Find
-- closing, in tables and history
pub mod Closed
-- hold, register, port
pub mod StepAdd
-- drop, close, revoke, answer
pub mod StepClose
-- go, fetch, comes
pub mod StepGo
-- ask
pub mod StepAsk
-- every call keeps Inv
pub mod StepsInv
-- ---- ends on loan
-- the ends that requests list against the ends on loan, request by request
pub mod Loans
-- what a refusal and an accepted answer leave of Lends
pub mod LoansKept
-- calls that close
pub mod LoansClose
-- calls that close and lend nothing
pub mod LoansAdd
-- ask
pub mod LoansAsk
-- every call keeps Lends
pub mod LoansSteps
-- ---- the three parts of demand 3 on states
-- an open port has exactly two ends
pub mod TwoEnds
-- a revoke takes just what came from the request
pub mod Vanish
-- surviving ends go back to the lender of the oldest request closed
pub mod Returns
-- ---- text and answers
-- every answer on sound tables: a value in range, or a refusal from 2 to 18 that leaves the state
pub mod Spoken
-- what the history reads of a printed answer
pub mod Answered
-- the rows that an opening text opens, as the history begins
pub mod Begun
-- an accepted opening begins history and tables alike
pub mod Start
-- every call line leaves sound tables sound
pub mod KeptCalls
-- ---- landing 108
-- `answer` is what the two calls before it were
pub mod OneAnswer
