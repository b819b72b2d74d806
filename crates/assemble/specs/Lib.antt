pub mod Whole
pub mod Moves
pub mod Walk
