-- Definitions of the text side: patterns, call lines, the opening text, answers, what is read back, the two entry points, a session.
pub mod Patterns
pub mod CallLines
pub mod Opening
pub mod Answers
pub mod ReadBack
pub mod Entry
pub mod Session
pub mod Computes
pub mod vocabulary
