pub mod File
pub mod Check
pub mod WellFormed
pub mod Layout
