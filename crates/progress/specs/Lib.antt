pub mod AnyTurn
pub mod Promises
