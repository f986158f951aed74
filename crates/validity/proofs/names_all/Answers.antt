-- What is gathered is 0 just where each message is named. Assumes nothing.
use borrow.Author.Rules.{rules}
use Prim.Native.Nat.{ℕ, ◌+◌}
use native.Mathlib.Omega.{arith}
use mathlib.Core.Path.{◌≡◌, sym, ap, ◌∙◌}
use mathlib.Core.Bool.{Bool, ◌&&◌}
use lib.Bits.{bit_or}
use lib.Dec.{eqb}
use lib.ListN.{get_or}
use Rattle.std.proofs.iter.Yields.{fronts, slice_gives}
use Rattle.base.specs.Lists.{all}
use Rattle.codec.specs.ByteList.{list_at}
use Rattle.codec.proofs.Gathering.{or-zero}
use Rattle.validity.specs.Marks.{messages_from, message_marked}
use Rattle.validity.proofs.ChainLaws.{gathered, all-bytes}
use Rattle.validity.proofs.MarksLaws.{message-at}
use Rattle.validity.proofs.names_all.Goals as goal

pub returns : goal.returns
returns c =
    let a = c.args in
    let b = a.b.now in
    let u = a.unnamed.now in
    let start : ℕ = messages_from a.sent in
    let t : ℕ → Bool = λ x. eqb (get_or u (start + x) 0) 0 in
    let r : c.iter.result.rest.now ≡ list_at b a.at = search rules in
    gathered fronts (λ y. y.now) _ _ t _ _ c.fold.result (slice_gives c.iter.result)
    (λ n x z h k.
    let e : z ≡ bit_or n (get_or u (c.messages_from-start.result + x.now) 0) = search rules in
    (ap (λ m. eqb m 0) e ∙ or-zero n (get_or u (c.messages_from-start.result + x.now) 0) ∙ ap (λ j. eqb n 0 && eqb (get_or u (j + x.now) 0) 0) c.messages_from-start.ensures, search rules))
    c.fold.ensures.ran
    ∙ ap (all t) r
    ∙ all-bytes t (message_marked u a.sent) (a.at + 1) (get_or b a.at 0) b (λ i. omega (arith, c.type_inv.b i)) (λ x l. sym (message-at u a.sent x l))
