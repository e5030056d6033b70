-- The vocabulary of contracts over the lent words. A reader of the definitions need not read it.
pub mod Sizes
pub mod Represents
pub mod Slots
pub mod Searches
pub mod Finds
pub mod OfState
