pub mod Laws
pub mod Numbers
pub mod Refused
pub mod Theorems
