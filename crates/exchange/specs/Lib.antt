pub mod Rows
pub mod Sources
pub mod Labels
pub mod Built
