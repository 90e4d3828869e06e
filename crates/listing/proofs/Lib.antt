pub mod Numbers
pub mod Lines
pub mod Written
pub mod Rehearsed
pub mod Printed
pub mod Long
pub mod Sample
