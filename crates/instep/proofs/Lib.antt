-- Reading in step and lowering in step: what a unit and other bytes, a tree and a moved tree have in common.
pub mod InStep
pub mod Reading
pub mod Runs
pub mod Exprs
pub mod Stmts
pub mod Codes
pub mod Likes
