-- A formed view's index is below 32. Assumes nothing.
use Rattle.undo.proofs.FindingParts.{recorder_range, formed-within}
use Rattle.undo.proofs.Place.endpoint.Goals as goal

pub endpoint_at-requires : goal.endpoint_at-requires
endpoint_at-requires c =
    let p = c.requires in
    let range = recorder_range p.0 in
    (range.0, range.1, formed-within p.0 c.args.g _ p.1 c.find_view.ensures.value)
