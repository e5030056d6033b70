-- The vocabulary of contracts of the questions. A reader of the definitions need not read it.
pub mod Pairs
pub mod Questions
