-- Laws that belong to no one function.
mod Laws
mod FieldLaws
mod PartLaws
mod NodeLaws
mod UnitLaws
