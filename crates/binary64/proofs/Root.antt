pub mod Squares
pub mod Floor
pub mod Rounded
pub mod Value
pub mod Pattern
pub mod Between
pub mod Order
pub mod Nearest
