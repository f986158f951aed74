-- Nothing, or the word and `whole` or the set. Assumes nothing.
use mathlib.Core.Path.{sym, ◌∙◌}
use mathlib.Core.List.{[], ◌∷◌}
use lib.Dec.{eqb}
use borrow.Author.Tests.{eqb-true, eqb-false}
use Rattle.base.proofs.Bools.{by_cases}
use Rattle.text.proofs.TextLaws.{wrote-length, then}
use Rattle.story.specs.Sets.{set_text}
use Rattle.story.specs.Keywords.{founders-word, whole_word}
use Rattle.story.specs.Printing.{whole_mask}
use Rattle.printing.specs.Lines.{spaced}
use Rattle.printing.proofs.FieldsLaws.{room-first, room-rest, room_as, wrote_as, wrote_none}
use Rattle.printing.proofs.OpeningLaws.{founders-none, founders-whole, founders-set}
use Rattle.printing.proofs.put_founders.Goals as goal

pub returns-then-m-eq0 : goal.returns-then-m-eq0
returns-then-m-eq0 c = wrote_as (sym (founders-none _ _ c.if-m-eq0.true)) (wrote_none _ _)

pub put_field-next-requires : goal.put_field-next-requires
unfolding founders-word
put_field-next-requires c =
    let a = c.args in
    by_cases (eqb a.m (whole_mask a.n))
    (λ t. room-first (32 ∷ whole_word) (room_as (founders-whole a.n a.m c.if-m-eq0.false (eqb-true _ _ t)) c.requires.room))
    (λ f. room-first (spaced (set_text a.m ∷ [])) (room_as (founders-set a.n a.m c.if-m-eq0.false (eqb-false _ _ f)) c.requires.room))

pub put_field-requires : goal.put_field-requires
unfolding founders-word whole_word
put_field-requires c = room-rest c.put_field-next.ensures (room_as (founders-whole _ _ c.if-m-eq0.false (c.if-m-all_of.true ∙ c.all_of.ensures)) c.requires.room)

pub returns-then-m-all_of : goal.returns-then-m-all_of
unfolding founders-word whole_word
returns-then-m-all_of c = wrote_as (sym (founders-whole _ _ c.if-m-eq0.false (c.if-m-all_of.true ∙ c.all_of.ensures))) (then c.put_field-next.ensures c.put_field.ensures)

pub shape_of-out-then-m-all_of : goal.shape_of-out-then-m-all_of
shape_of-out-then-m-all_of c = wrote-length (returns-then-m-all_of c)

pub put_set-requires : goal.put_set-requires
unfolding founders-word
put_set-requires c = room-rest c.put_field-next.ensures (room_as (founders-set _ _ c.if-m-eq0.false (λ e. c.if-m-all_of.false (e ∙ sym c.all_of.ensures))) c.requires.room)

pub returns : goal.returns
unfolding founders-word
returns c = wrote_as (sym (founders-set _ _ c.if-m-eq0.false (λ e. c.if-m-all_of.false (e ∙ sym c.all_of.ensures)))) (then c.put_field-next.ensures c.put_set.ensures)

pub shape_of-out : goal.shape_of-out
shape_of-out c = wrote-length (returns c)
