pub mod Refusals
pub mod Going
pub mod Ends
