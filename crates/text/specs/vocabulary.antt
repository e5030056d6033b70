-- The vocabulary of contracts over the text. A reader of the definitions need not read it.
pub mod Sizes
pub mod Groups
pub mod Replies
pub mod Openings
pub mod Written
