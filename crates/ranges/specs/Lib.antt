pub mod CellParts
pub mod TableParts
pub mod Tests
