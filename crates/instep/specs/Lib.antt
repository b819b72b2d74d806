-- What becomes of a tree whose places move, and whose free fields and constants may change.
pub mod Moves
