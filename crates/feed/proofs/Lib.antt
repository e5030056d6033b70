pub mod Openings
pub mod Replies
pub mod Feeding
pub mod Prints
pub mod Buffers
pub mod Moves
pub mod Parts
pub mod Runs
