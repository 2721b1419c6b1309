pub mod Entries
pub mod Renewal
pub mod Mirror
pub mod Links
pub mod Flags
pub mod Change
