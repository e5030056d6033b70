-- The vocabulary of contracts over two texts that are joined. A reader of the definitions need not read it.
pub mod Directories
pub mod Merged
pub mod Listed
pub mod Lines
pub mod Reading
pub mod Answers
