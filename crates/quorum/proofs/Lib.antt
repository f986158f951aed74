pub mod VoteLaws
pub mod SetLaws
