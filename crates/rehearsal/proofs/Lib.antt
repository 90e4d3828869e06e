pub mod Ranges
pub mod Runs
pub mod Demand3
pub mod Ways
pub mod Published
