pub mod OpenedLaws
pub mod Openings
