pub mod Numbering
pub mod Records
pub mod Facts
pub mod Derived
pub mod Bytes
pub mod Table
