-- What the values of this crate's types mean in the words of the definitions, and the words of its theorems.
pub mod Values
pub mod Trips
