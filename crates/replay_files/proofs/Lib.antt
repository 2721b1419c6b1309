pub mod Printed
pub mod Compared
