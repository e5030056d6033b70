-- The functions under C names have no definitions of their own.
pub mod vocabulary
