pub mod Distances
pub mod Looks
pub mod Far
