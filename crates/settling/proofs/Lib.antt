pub mod TurnSteps
pub mod TakenLaws
pub mod CopyLaws
