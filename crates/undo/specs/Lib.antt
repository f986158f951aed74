pub mod Buffer
pub mod Parts
pub mod Code
