pub mod Caching
