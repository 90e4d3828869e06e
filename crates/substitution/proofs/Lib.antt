mod Levels
mod Pieces
mod Loop
pub mod Laws
