-- The questions have no definitions of their own: rows/specs/Tables.antt has comes_from, is_lent, on_loan and first_chain.
pub mod vocabulary
