-- The theorems of the worked examples.
pub mod Examples
