-- What the proofs of several functions use. `UnitLaws`, `Inversion` and those after it are for the crates that link this one too.
pub mod Laws
mod NodeLaws
pub mod UnitLaws
pub mod Inversion
pub mod ExprPlaces
pub mod StmtPlaces
pub mod UnitPlaces
pub mod Wider
pub mod ArgLaws
pub mod KindLaws
