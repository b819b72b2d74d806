-- The proofs of the landing theorem and of what holds along a walk, in the order in which to read them.
pub mod Theorem
pub mod Applied
pub mod Sums
pub mod Emitted
pub mod Nodes
mod Pieces
mod Rules
mod Counts
mod Exprs
mod Stmts
pub mod Runs
mod Starts
mod Resolving
mod Bytes
mod Fits
mod Parts
mod Paid
