pub mod Counting
pub mod Lent
pub mod Running
pub mod Walked
