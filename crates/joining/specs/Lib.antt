-- Definitions of the joining of two opening texts.
pub mod Joins
pub mod Written
pub mod Feeding
pub mod Opened
pub mod Promises
pub mod vocabulary
pub mod Runs
pub mod Computes
