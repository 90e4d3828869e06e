pub mod First
pub mod Refusal
