pub mod Screens
