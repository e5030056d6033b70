-- Tests of the definitions that the prover computes: the starred cases, and sessions that show that demand 3 is not empty.
pub mod Cases
pub mod Sanity
