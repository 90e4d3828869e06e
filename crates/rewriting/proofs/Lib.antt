pub mod Marking
pub mod Commands
pub mod Writing
pub mod Growing
pub mod Passing
pub mod Answering
pub mod Formed
pub mod Calling
