-- The recorder stands in the hall. Assumes nothing.
use Rattle.undo.proofs.FindingParts.{recorder_range}
use Rattle.undo.proofs.recorder_and_entry.Goals as goal

pub recorder-requires : goal.recorder-requires
recorder-requires c = recorder_range c.requires
