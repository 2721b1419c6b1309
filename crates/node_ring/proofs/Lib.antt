pub mod Overlay
pub mod Marks
pub mod Count
pub mod Ring
pub mod Theorems
