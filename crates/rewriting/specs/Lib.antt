pub mod Answer
pub mod Marks
pub mod Grown
