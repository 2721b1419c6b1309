-- What the proofs share. The theorems on `sqrt` stand in `binary64/proofs/Theorems`.
pub mod Words
pub mod Special
pub mod Halving
pub mod Test
