pub mod Within
pub mod Mirror
pub mod Renewing
pub mod Ready
pub mod Rules
pub mod Theorems
pub mod Change
pub mod Examples
