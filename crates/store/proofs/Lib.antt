-- Laws that belong to no one function, and the theorems.
pub mod LessLaws
pub mod FieldLaws
pub mod PassLaws
mod Moved
pub mod Trips
pub mod Never
