-- Step back: it undoes a held step; the calls on a bench are the run of the actions that remain.
pub mod HeldLaws
pub mod BackLaws
pub mod Refused
pub mod HeldCode
pub mod HeldTurns
pub mod LentLaws
pub mod BackUndoes
pub mod RunsLaws
pub mod Standing
pub mod CallsStand
pub mod Counts
pub mod Backs
pub mod HeldSettle
pub mod BenchRun
pub mod LentRuns
