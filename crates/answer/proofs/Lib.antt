pub mod WordLaws
pub mod ValuesLaws
