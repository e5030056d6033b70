-- The tests of requests and holders have no definitions of their own: rows/specs/Sound.antt has the clauses.
pub mod vocabulary
