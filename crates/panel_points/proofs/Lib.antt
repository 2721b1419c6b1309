pub mod Places
pub mod Seven
