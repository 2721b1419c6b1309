-- What the proofs share.
pub mod Horner
pub mod Exponent
pub mod Parts
pub mod Finite
pub mod Theorems
pub mod Bounded
pub mod Examples
