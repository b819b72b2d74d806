-- What units that strip alike have in common.
pub mod Outline
pub mod Alike
