-- Laws that belong to no one function.
pub mod LabelLaws
pub mod RecordLaws
pub mod Passes
pub mod PassLaws
pub mod Listed
pub mod Delivered
pub mod Applied
pub mod Nops
