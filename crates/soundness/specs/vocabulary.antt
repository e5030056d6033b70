-- The vocabulary of contracts of the test of the lent words. A reader of the definitions need not read it.
pub mod Clauses
pub mod Laid
