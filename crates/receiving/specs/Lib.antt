pub mod Cells
pub mod Receives
