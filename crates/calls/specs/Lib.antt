-- Definitions of the calls: what each answers, and the tables after it.
pub mod Answers
pub mod Rules
pub mod Loans
pub mod Calls
pub mod Computes
pub mod vocabulary
