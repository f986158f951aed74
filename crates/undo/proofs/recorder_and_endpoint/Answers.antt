-- The view that the recorder names is formed. Assumes nothing.
use mathlib.Core.Path.{ap, ap₂, ◌∙◌}
use Rattle.store.specs.StoredForm.{hall_of}
use Rattle.undo.specs.Parts.{both, endpoint_place}
use Rattle.undo.proofs.FindingParts.{recorder_range, current-read}
use Rattle.undo.proofs.recorder_and_endpoint.Goals as goal

pub recorder-requires : goal.recorder-requires
recorder-requires c = recorder_range c.requires.0

pub endpoint-requires : goal.endpoint-requires
endpoint-requires c =
    let p = c.requires in
    let x = c.read_recorder in
    (p.0, (current-read p.0 p.1 x.result x.ensures.1).0)

pub returns : goal.returns
returns c =
    let p = c.requires in
    let x = c.read_recorder in
    ap₂ both c.recorder.ensures
    (c.endpoint.ensures ∙ ap (endpoint_place (hall_of c.args.b.now) c.args.r) (current-read p.0 p.1 x.result x.ensures.1).1)
