pub mod Laws
pub mod Numbers
pub mod Named
pub mod Refused
mod Theorems
mod Examples
