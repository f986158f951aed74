-- The place of the word is the kind's number less 1. Assumes nothing.
use Rattle.std.proofs.Common.{refl, arith}
use Rattle.base.specs.Lists.{rest}
use Rattle.model.specs.Listing.{summary-word}
use Rattle.story.specs.Keywords.{kind_words, submit-word, label-word, send-word, form-word, enter-word, place-word, receive-word, safe-word, confirm-word, deliver-word}
use Rattle.scanning.proofs.ValuesAt.{kind-place, kind-found, no-kind-number}
use Rattle.scanning.proofs.kind_named.Goals as goal

pub returns-in_err-i : goal.returns-in_err-i
unfolding rest kind_words submit-word label-word send-word summary-word form-word enter-word
    place-word receive-word safe-word confirm-word deliver-word
returns-in_err-i c = rw c.from_residual.ensures (no-kind-number c.args.field.now _ c.in_err-i.ensures refl)

pub overflow_cast-i : goal.overflow_cast-i
unfolding rest kind_words submit-word label-word send-word summary-word form-word enter-word
    place-word receive-word safe-word confirm-word deliver-word
overflow_cast-i c = omega (arith, kind-place c.args.field.now _ c.in_ok-i.i c.in_ok-i.ensures refl)

pub overflow_add-i : goal.overflow_add-i
unfolding rest kind_words submit-word label-word send-word summary-word form-word enter-word
    place-word receive-word safe-word confirm-word deliver-word
overflow_add-i c = omega (arith, kind-place c.args.field.now _ c.in_ok-i.i c.in_ok-i.ensures refl)

pub returns : goal.returns
unfolding rest kind_words submit-word label-word send-word summary-word form-word enter-word
    place-word receive-word safe-word confirm-word deliver-word
returns c = rw c.ok.ensures.value (kind-found c.args.field.now _ c.in_ok-i.i c.in_ok-i.ensures refl c.try_from.result c.try_from.ensures)
