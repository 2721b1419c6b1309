pub mod Maps
pub mod Shown
