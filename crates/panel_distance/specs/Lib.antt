pub mod Distance
pub mod Bisection
