-- Laws of the definitions and of tables that several crates cite.
pub mod Arms
pub mod Inversion
pub mod Results
pub mod Grows
pub mod Tables
pub mod Sizes
pub mod Picked
pub mod Widths
pub mod Trees
