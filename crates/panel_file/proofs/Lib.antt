pub mod Numbers
pub mod Decoded
pub mod Accepted
pub mod Refusals
pub mod Fields
pub mod RoundTrip
pub mod Theorems
pub mod Examples
