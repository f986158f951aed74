pub mod Held
pub mod Steps
pub mod Turns
pub mod Lent
pub mod Runs
pub mod Promises
pub mod Kept
pub mod LentRuns
