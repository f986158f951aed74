-- By whether the source is a member. Assumes nothing.
use Prim.Native.Nat.{ℕ, ◌+◌}
use native.Mathlib.Omega.{arith}
use mathlib.Core.Path.{sym, ap, ◌∙◌}
use mathlib.Core.Bool.{Bool}
use lib.ListN.{get_or}
use Rattle.base.specs.Lists.{has}
use Rattle.quorum.specs.Sets.{members}
use Rattle.quorum.proofs.SetLaws.{members-range}
use Rattle.validity.specs.Marks.{message_marked}
use Rattle.validity.specs.RawHall.{size_at}
use Rattle.validity.proofs.CodeLaws.{queued-member, queued-other}
use borrow.Author.Rules.{rules}
use Rattle.validity.proofs.names_queued.Goals as goal

pub is_sent-requires : goal.is_sent-requires
is_sent-requires c =
    let s = members-range _ _ _ (sym c.is_member.ensures ∙ c.if-is_member.true) in
    (s.0, omega (arith, s.1, c.requires.0), search rules, search rules)

pub returns-then-is_member : goal.returns-then-is_member
returns-then-is_member c =
    let a = c.args in
    let b = a.b.now in
    c.names_message.ensures
    ∙ ap (λ (t : Bool). message_marked a.unnamed.now t (get_or b (a.at + 1) 0)) c.is_sent.ensures
    ∙ sym
    (queued-member a.unnamed.now b a.i a.at
    (ap (λ (z : ℕ). has (members (size_at b) z) (get_or b a.at 0)) (sym c.view_set.ensures) ∙ sym c.is_member.ensures ∙ c.if-is_member.true))

pub returns-else-is_member : goal.returns-else-is_member
returns-else-is_member c =
    let a = c.args in
    let b = a.b.now in
    c.if-is_member.false
    ∙ sym
    (queued-other a.unnamed.now b a.i a.at
    (ap (λ (z : ℕ). has (members (size_at b) z) (get_or b a.at 0)) (sym c.view_set.ensures) ∙ sym c.is_member.ensures ∙ c.if-is_member.false))
