-- The invariant: the members below i are written. Assumes nothing.
use Prim.Native.Nat.{◌-◌}
use Rattle.text.specs.Text.{Wrote}
use Rattle.story.specs.Sets.{members_text}
use Rattle.printing.proofs.put_members.Given as goal

abbrev pub invariant-loop-i : goal.invariant-loop-i
invariant-loop-i l = Wrote l.initial.out l.at (members_text l.m (l.i - 1)) l.out l.next
