pub mod Copied
pub mod Stack
