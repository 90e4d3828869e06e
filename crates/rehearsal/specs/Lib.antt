pub mod Claim
pub mod Rehearsal
