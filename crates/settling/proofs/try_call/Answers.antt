-- A member's call has the number of its step; 35 otherwise. Assumes nothing.
use mathlib.Core.Path.{sym, ap, ◌∙◌}
use Rattle.std.proofs.Common.{rules}
use Rattle.model.specs.KindNumbers.{kind_number}
use Rattle.model.specs.Settle.{settle_call}
use Rattle.store.specs.StoredForm.{hall_of}
use Rattle.settling.proofs.TurnSteps.{member-call, no_member}
use Rattle.settling.proofs.try_call.Goals as goal

pub returns-then-not-in_mask : goal.returns-then-not-in_mask
returns-then-not-in_mask c =
    let a = c.args in
    no_member (hall_of a.b.now) a.v (kind_number a.k) a.r (sym c.in_mask.ensures ∙ search rules)

pub returns : goal.returns
returns c =
    let a = c.args in
    member-call a.b.now c.requires.0 a.v (kind_number a.k) a.r _ _ (sym c.in_mask.ensures ∙ search rules) (c.view_word-a.ensures ∙ ap (λ n. (settle_call a.v.number n 0).a) c.from.ensures) c.refusal_kind.ensures
