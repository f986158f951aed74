pub mod Text
pub mod Fields
