pub mod Bytes
pub mod Put
pub mod Filled
pub mod Same
