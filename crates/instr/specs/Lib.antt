-- What the values of this crate's types mean in the words of the definitions.
pub mod Values
pub mod Refusals
pub mod Tags
