-- The vocabulary of contracts of changes in place. A reader of the definitions need not read it.
pub mod Bits
pub mod Changes
pub mod Marks
