pub mod Sets
pub mod Votes
