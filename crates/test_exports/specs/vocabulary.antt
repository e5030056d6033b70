-- The vocabulary of contracts of the functions under C names. A reader of the definitions need not read it.
pub mod Exports
pub mod Calls
