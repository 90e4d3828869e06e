pub mod Refusals
pub mod Resting
pub mod Going
pub mod Ends
