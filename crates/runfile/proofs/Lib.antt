pub mod Blocks
pub mod Openings
pub mod Calls
pub mod Theorems
pub mod Read
pub mod WriteLaws
pub mod Cases
