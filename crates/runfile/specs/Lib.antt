pub mod Answers
pub mod InRange
