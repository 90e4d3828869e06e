pub mod Strip
pub mod Program
pub mod Bodies
pub mod Choice
pub mod Contract
