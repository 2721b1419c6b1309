pub mod Made
pub mod Totals
pub mod Turns
