-- A refused call on a bench leaves both slices. Assumes nothing.
use Rattle.stepback.specs.Kept.{HeldKeeps}
use Rattle.stepback.proofs.HeldLaws.{step-keeps-bench, settle-keeps-bench, back-keeps-bench}

pub held_keeps : HeldKeeps
held_keeps = record { step = step-keeps-bench; settle = settle-keeps-bench; back = back-keeps-bench }
