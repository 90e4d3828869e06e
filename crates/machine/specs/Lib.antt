pub mod Program
pub mod Bodies
pub mod Fire
pub mod Choice
pub mod Outcome
pub mod Once
