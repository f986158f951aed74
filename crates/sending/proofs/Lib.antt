pub mod Summary
pub mod Entry
pub mod ValuesLaws
