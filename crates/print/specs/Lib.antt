-- What the answers of this crate mean, and what its writers do to a buffer.
pub mod Values
pub mod Writing
pub mod Listings
