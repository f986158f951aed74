-- Settling (02, A5): what a turn finds, and the run that a settle stands for.
pub mod TurnLaws
pub mod SettleRun
pub mod ViewsKept
