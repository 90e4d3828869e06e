pub mod Ready
pub mod Search
pub mod Searched
