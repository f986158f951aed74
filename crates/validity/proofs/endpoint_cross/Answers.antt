-- By whether the recorder is a member. Assumes nothing.
use Prim.Native.Nat.{ℕ}
use mathlib.Core.Path.{sym, ap, ap₂, ◌∙◌}
use mathlib.Core.Bool.{Bool, not, ◌&&◌}
use lib.Dec.{eqb}
use lib.ListN.{get_or}
use Rattle.base.specs.Lists.{has, all}
use Rattle.quorum.specs.Sets.{members}
use Rattle.codec.specs.ByteList.{list_at}
use Rattle.validity.specs.Marks.{message_marked, endpoint_off}
use Rattle.validity.specs.RawHall.{size_at}
use Rattle.validity.proofs.CrossPartsLaws.{endpoint-member, endpoint-other}
use Rattle.validity.proofs.endpoint_cross.Goals as goal

pub returns-then-is_member : goal.returns-then-is_member
returns-then-is_member c =
    let a = c.args in
    let h = c.requires in
    let b = a.b.now in
    let l = a.unnamed.now in
    ap₂ ◌&&◌ (c.names_all.ensures ∙ ap (λ (t : Bool). all (message_marked l t) (list_at b (endpoint_off a.p a.i))) c.is_sent-sent.ensures) c.names_summary.ensures
    ∙ sym
    (endpoint-member b h.0.ranged.held l h.0.labels a.i h.1 a.p h.2.0 h.2.1
    (ap (λ (z : ℕ). has (members (size_at b) z) a.p) (sym c.view_set.ensures) ∙ sym c.is_member.ensures ∙ c.if-is_member.true))

pub returns-else-is_member : goal.returns-else-is_member
returns-else-is_member c =
    let a = c.args in
    let h = c.requires in
    let b = a.b.now in
    let l = a.unnamed.now in
    ap (λ (t : Bool). eqb (get_or b (endpoint_off a.p a.i) 0) 0 && not t) c.is_sent-sent.ensures
    ∙ sym
    (endpoint-other b h.0.ranged.held l h.0.labels a.i h.1 a.p h.2.0 h.2.1
    (ap (λ (z : ℕ). has (members (size_at b) z) a.p) (sym c.view_set.ensures) ∙ sym c.is_member.ensures ∙ c.if-is_member.false))
