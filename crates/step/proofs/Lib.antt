pub mod Dispatch
pub mod StepsLaws
