-- Definitions of the tables: what they hold, when they are sound, and how the lent words represent them.
pub mod Lists
pub mod Limits
pub mod Codes
pub mod Tables
pub mod Setters
pub mod Sound
pub mod Layout
pub mod Computes
pub mod vocabulary
