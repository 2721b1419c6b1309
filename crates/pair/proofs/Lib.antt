pub mod Cached
pub mod Numbers
