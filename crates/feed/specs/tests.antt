-- Tests of the definitions that the prover computes: sessions fed in parts.
pub mod Parts
