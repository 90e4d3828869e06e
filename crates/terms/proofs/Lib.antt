pub mod Range
pub mod Stands
pub mod Encode
pub mod Loose
pub mod Walk
pub mod Pass
