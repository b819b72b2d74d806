-- Laws that belong to no one function.
pub mod WriteLaws
pub mod DigitLaws
pub mod FieldLaws
pub mod LineLaws
pub mod AnswerLaws
