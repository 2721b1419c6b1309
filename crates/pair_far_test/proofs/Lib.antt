pub mod Apart
pub mod Nearness
