pub mod Tests
pub mod Terms
pub mod Wide
pub mod Signed
pub mod Guided
pub mod Residual
pub mod Far
