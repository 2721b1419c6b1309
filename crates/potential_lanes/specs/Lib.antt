pub mod Seven
