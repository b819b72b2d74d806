-- What the values of this crate's types mean in the words of the definitions, and what lowering and resolving deliver together.
pub mod Mapping
pub mod Values
pub mod Delivered
