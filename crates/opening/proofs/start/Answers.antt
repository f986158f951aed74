-- `opening::start` meets its contract: the mask says which start record is written. Assumes nothing.
use Prim.Native.Nat.{◌+◌, ◌*◌}
use mathlib.Core.Path.{sym, ap, ◌∙◌}
use lib.Seq.{sets}
use Rattle.quorum.specs.Sets.{members}
use Rattle.store.specs.Layout.{recorders_at, recorder_size}
use Rattle.store.specs.Cells.{RecorderCell}
use Rattle.store.specs.CellForms.{recorder_form}
use Rattle.opening.proofs.Openings.{in-founders}
use Rattle.opening.proofs.start.Goals as goal

pub returns-then-in_mask : goal.returns-then-in_mask
returns-then-in_mask c =
    let k = c.args.k in
    let set = c.args.set in
    λ n h. c.put_recorder.ensures
    ∙ ap (λ (x : RecorderCell). sets c.args.b.now (recorders_at + k * recorder_size) (recorder_form.encode x))
    (c.founder.ensures.1 (members n set) (k + 1) (in-founders n set k h ∙ sym c.in_mask.ensures ∙ c.if-in_mask.true))

pub returns-else-in_mask : goal.returns-else-in_mask
returns-else-in_mask c =
    let k = c.args.k in
    let set = c.args.set in
    λ n h. c.put_recorder-else-in_mask.ensures
    ∙ ap (λ (x : RecorderCell). sets c.args.b.now (recorders_at + k * recorder_size) (recorder_form.encode x))
    (c.outsider.ensures.1 (members n set) (k + 1) (in-founders n set k h ∙ sym c.in_mask.ensures ∙ c.if-in_mask.false))
