-- What the stage does, in the order of document 01.
pub mod Answer
pub mod Bytes
pub mod Tag
pub mod Instr
pub mod Tree
pub mod Read
pub mod Code
pub mod Lower
pub mod Listing
pub mod Resolve
pub mod Stage
pub mod Stored
pub mod Strip
pub mod Text
pub mod Examples
