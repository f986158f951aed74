pub mod Acts
pub mod Parts
pub mod AtRecorder
pub mod Narrow
