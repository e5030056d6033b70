-- Definitions of the program's reading: a session fed in parts, and what it promises; the tests are computed.
pub mod Feeding
pub mod Prints
pub mod vocabulary
pub mod Runs
pub mod Computes
pub mod tests
