pub mod Loops
pub mod Parts
pub mod TablePartsLaws
pub mod CellPartsLaws
