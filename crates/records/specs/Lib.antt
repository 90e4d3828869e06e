pub mod Entries
pub mod Cases
