-- The vocabulary of contracts of the tests of requests and holders. A reader of the definitions need not read it.
pub mod Clauses
