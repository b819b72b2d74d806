-- What an exported function answers.
pub mod Numbers
