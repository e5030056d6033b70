-- The vocabulary of contracts of the calls. A reader of the definitions need not read it.
pub mod Lookups
pub mod Effects
pub mod Loans
pub mod Performs
pub mod Pairs
pub mod Answering
pub mod Asks
