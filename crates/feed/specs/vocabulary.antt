-- The vocabulary of contracts over a session that is fed. A reader of the definitions need not read it.
pub mod Buffers
