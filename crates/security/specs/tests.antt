-- What the prover computes: sessions that show that the theorems are not empty, and that what is not promised does not hold.
pub mod Runs
pub mod NotEmpty
pub mod NotPromised
