pub mod After
pub mod Columns
pub mod Store
