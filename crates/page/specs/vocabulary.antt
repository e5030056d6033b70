-- The vocabulary of contracts over the page. A reader of the definitions need not read it.
pub mod Columns
