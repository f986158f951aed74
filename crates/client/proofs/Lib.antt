pub mod Submitting
pub mod Searching
pub mod Numbers
pub mod AtMarks
pub mod LabelsLaws
pub mod LabellingLaws
