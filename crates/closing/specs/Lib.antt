-- Definitions of closing: in one pass, and step by step.
pub mod Closing
pub mod Steps
pub mod Computes
pub mod vocabulary
