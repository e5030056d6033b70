-- The vocabulary of the entry points' contracts.
pub mod Entries
