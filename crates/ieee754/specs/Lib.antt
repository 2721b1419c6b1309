pub mod Ieee754
