pub mod Frame
pub mod Layout
pub mod Zipper
