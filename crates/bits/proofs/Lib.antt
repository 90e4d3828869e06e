-- What callers cite.
pub mod Bits
-- The set bits from a place on, by those of the word shifted.
pub mod Next
-- The laws behind the functions of the crate.
mod Count
mod Trailing
