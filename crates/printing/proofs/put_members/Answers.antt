-- The members below i are written. Assumes nothing.
use Rattle.std.proofs.Common.{sym, ap, arith, ◌∙◌}
use Rattle.text.proofs.TextLaws.{then}
use Rattle.story.specs.Sets.{members_text}
use Rattle.printing.proofs.FieldsLaws.{wrote_as, wrote_none}
use Rattle.printing.proofs.MembersLaws.{members-upto, member-room}
use Rattle.printing.proofs.put_members.Goals as goal

pub loop-i-init : goal.loop-i-init
unfolding members_text
loop-i-init c = wrote_none _ _

pub put_member-next-requires-clause-room : goal.put_member-next-requires-clause-room
put_member-next-requires-clause-room c = member-room _ c.loop-i.i c.loop-i.auto.i c.loop-i-test.true c.requires c.loop-i.invariant

pub loop-i-preserved : goal.loop-i-preserved
loop-i-preserved c =
    wrote_as (sym (members-upto c.args.m c.loop-i.i c.loop-i.auto.i) ∙ ap (members_text c.args.m) (omega arith))
    (then c.loop-i.invariant c.put_member-next.ensures)
