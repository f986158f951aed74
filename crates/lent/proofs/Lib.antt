pub mod Words
pub mod Plain
