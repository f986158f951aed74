-- A space and a brace, the members, and a brace. Assumes nothing.
use mathlib.Core.Path.{sym}
use mathlib.Core.List.{[], ◌∷◌, ◌++◌}
use Rattle.text.proofs.TextLaws.{wrote-length, then}
use Rattle.story.specs.Sets.{members_text}
use Rattle.printing.proofs.FieldsLaws.{room-first, room-rest, room_as, wrote_as}
use Rattle.printing.proofs.MembersLaws.{set-parts}
use Rattle.printing.proofs.put_set.Goals as goal

pub put_word-a-requires : goal.put_word-a-requires
put_word-a-requires c = room-first (members_text c.args.m 8 ++ (125 ∷ [])) (room_as (set-parts _) c.requires)

pub put_members-b-requires : goal.put_members-b-requires
put_members-b-requires c = room-first (125 ∷ []) (room-rest c.put_word-a.ensures (room_as (set-parts _) c.requires))

pub put_word-requires : goal.put_word-requires
put_word-requires c = room-rest c.put_members-b.ensures (room-rest c.put_word-a.ensures (room_as (set-parts _) c.requires))

pub returns : goal.returns
returns c = wrote_as (sym (set-parts _)) (then c.put_word-a.ensures (then c.put_members-b.ensures c.put_word.ensures))

pub shape_of-out : goal.shape_of-out
shape_of-out c = wrote-length (returns c)
