-- Laws that belong to no one function.
mod Answers
