-- `marshal::try_settle_held` meets its contract. Assumes nothing.
use mathlib.Core.Path.{sym, ap, ◌∙◌}
use Rattle.base.specs.Chains.{◌⨾◌}
use Rattle.stepback.specs.Held.{bench_of}
use Rattle.stepback.proofs.HeldLaws.{settle-number}
use Rattle.marshal.proofs.try_settle_held.Goals as goal

pub returns : goal.returns
returns c =
    let a = c.args in
    c.or_no_room.ensures ∙ ap (λ n. n ⨾ 18) (c.settle_held_refusal.ensures ∙ sym (settle-number (bench_of a.hall.now a.undo.now)))
