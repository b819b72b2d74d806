-- The proofs that units which strip alike lower and resolve alike, in the order in which to read them.
mod Fields
mod RestLaws
mod Blanks
mod Settled
mod Units
mod Records
pub mod Theorem
pub mod Stripping
