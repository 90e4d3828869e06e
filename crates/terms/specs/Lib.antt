pub mod Record
pub mod Read
pub mod Encode
pub mod Walk
