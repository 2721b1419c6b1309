pub mod Place
pub mod Ring
