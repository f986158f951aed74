pub mod ReadsLaws
pub mod NoticesLaws
pub mod ValuesLaws
