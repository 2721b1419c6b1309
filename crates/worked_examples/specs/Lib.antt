pub mod BenchSheet
pub mod Gaps
