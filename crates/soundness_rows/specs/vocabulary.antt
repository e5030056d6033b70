-- The vocabulary of contracts of the tests of rows. A reader of the definitions need not read it.
pub mod AtSlot
pub mod Clauses
pub mod Packed
pub mod Seen
