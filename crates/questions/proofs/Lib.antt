-- Laws behind the functions of questions. One line a file:
-- what the requests list, in their words
pub mod Listed
-- the questions that go back along the sources
pub mod Questions
-- the first chain, written from the oldest row on
pub mod Chains
-- one pass for many pairs
pub mod PairMarks
