pub mod Numbers
pub mod Error
pub mod Residual
pub mod Candidate
