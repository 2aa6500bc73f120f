pub mod Moves
pub mod Room
pub mod Laws
