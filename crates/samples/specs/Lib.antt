-- What writing on a page does to its buffer.
pub mod Written
