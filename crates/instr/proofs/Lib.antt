-- Laws that belong to no one function.
pub mod TableLaws
pub mod NumberLaws
pub mod RecordLaws
pub mod ListingLaws
pub mod WholeLaws
