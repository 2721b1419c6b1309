pub mod Answer
pub mod Energy
pub mod Flux
pub mod Row
pub mod Conditions
