-- What the proofs share.
pub mod Normal
pub mod Arctangent
mod Made
mod Nans
