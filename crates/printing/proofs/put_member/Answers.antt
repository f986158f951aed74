-- Each branch writes the text of its case. Assumes nothing.
use mathlib.Core.Path.{sym, ◌∙◌}
use Rattle.model.specs.Listing.{decimal}
use Rattle.text.proofs.TextLaws.{wrote-length, then}
use Rattle.printing.proofs.FieldsLaws.{room-first, room-rest, room_as, wrote_as, wrote_none}
use Rattle.printing.proofs.MembersLaws.{member-out, member-first, member-later}
use Rattle.printing.proofs.put_member.Goals as goal

pub put_decimal-requires : goal.put_decimal-requires
put_decimal-requires c = room_as (member-first _ _ c.requires.le_i.1 (sym c.in_mask.ensures ∙ c.if-in_mask.true) (sym c.none_below.ensures ∙ c.if-none_below.true)) c.requires.room

pub returns-then-none_below : goal.returns-then-none_below
returns-then-none_below c = wrote_as (sym (member-first _ _ c.requires.le_i.1 (sym c.in_mask.ensures ∙ c.if-in_mask.true) (sym c.none_below.ensures ∙ c.if-none_below.true))) c.put_decimal.ensures

pub shape_of-out-then-none_below : goal.shape_of-out-then-none_below
shape_of-out-then-none_below c = wrote-length (returns-then-none_below c)

pub put_word-next-requires : goal.put_word-next-requires
put_word-next-requires c = room-first (decimal c.args.i) (room_as (member-later _ _ c.requires.le_i.1 (sym c.in_mask.ensures ∙ c.if-in_mask.true) (sym c.none_below.ensures ∙ c.if-none_below.false)) c.requires.room)

pub put_decimal-requires-then-in_mask : goal.put_decimal-requires-then-in_mask
put_decimal-requires-then-in_mask c = room-rest c.put_word-next.ensures (room_as (member-later _ _ c.requires.le_i.1 (sym c.in_mask.ensures ∙ c.if-in_mask.true) (sym c.none_below.ensures ∙ c.if-none_below.false)) c.requires.room)

pub returns-then-in_mask : goal.returns-then-in_mask
returns-then-in_mask c = wrote_as (sym (member-later _ _ c.requires.le_i.1 (sym c.in_mask.ensures ∙ c.if-in_mask.true) (sym c.none_below.ensures ∙ c.if-none_below.false))) (then c.put_word-next.ensures c.put_decimal-then-in_mask.ensures)

pub shape_of-out-then-in_mask : goal.shape_of-out-then-in_mask
shape_of-out-then-in_mask c = wrote-length (returns-then-in_mask c)

pub returns : goal.returns
returns c = wrote_as (sym (member-out _ _ (sym c.in_mask.ensures ∙ c.if-in_mask.false))) (wrote_none _ _)
