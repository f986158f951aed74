-- The step of the call. Assumes nothing.
use mathlib.Core.Path.{ap, ◌∙◌}
use Rattle.model.specs.Call.{words_of}
use Rattle.model.specs.KindNumbers.{kind_number}
use Rattle.model.specs.Settle.{settle_call}
use Rattle.calls.specs.Calls.{step_on}
use Rattle.settling.proofs.take_call.Goals as goal

pub returns : goal.returns
unfolding settle_call
returns c =
    let a = c.args in
    c.step_kind.ensures.bytes
    ∙ ap (λ w. (step_on a.work.now (words_of (kind_number a.k) a.r w 0)).bytes) (c.view_word-a.ensures ∙ ap (λ n. (settle_call a.v.number n 0).a) c.from.ensures)
