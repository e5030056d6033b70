-- Definitions of the holders' page, and what is promised of it.
pub mod Page
pub mod ReadBack
pub mod Promises
pub mod vocabulary
pub mod Computes
