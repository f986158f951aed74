-- Nothing, or the word and the numbers. Assumes nothing.
use mathlib.Core.Path.{sym}
use mathlib.Core.List.{map}
use Rattle.model.specs.Listing.{decimal}
use Rattle.text.proofs.TextLaws.{wrote-length, then}
use Rattle.story.specs.Keywords.{votes-word}
use Rattle.printing.specs.Lines.{spaced}
use Rattle.printing.proofs.FieldsLaws.{room-first, room-rest, room_as, wrote_as, wrote_none}
use Rattle.printing.proofs.OpeningLaws.{votes-none, votes-parts}
use Rattle.printing.proofs.put_votes.Goals as goal

pub returns-then-third-ne1 : goal.returns-then-third-ne1
returns-then-third-ne1 c = wrote_as (sym (votes-none _ _ c.if-third-ne1.true)) (wrote_none _ _)

pub put_field-next-requires : goal.put_field-next-requires
unfolding votes-word
put_field-next-requires c = room-first (spaced (map decimal c.args.words.now)) (room_as (votes-parts _ _ c.if-third-ne1.false) c.requires)

pub put_numbers-requires : goal.put_numbers-requires
unfolding votes-word
put_numbers-requires c = room-rest c.put_field-next.ensures (room_as (votes-parts _ _ c.if-third-ne1.false) c.requires)

pub returns : goal.returns
unfolding votes-word
returns c = wrote_as (sym (votes-parts _ _ c.if-third-ne1.false)) (then c.put_field-next.ensures c.put_numbers.ensures)

pub shape_of-out : goal.shape_of-out
shape_of-out c = wrote-length (returns c)
