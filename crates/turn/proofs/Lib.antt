pub mod Booked
pub mod Marks
pub mod Turns
