-- The table's byte of the message. Assumes nothing.
use Prim.Native.Nat.{ℕ, ◌+◌}
use mathlib.Core.Path.{ap, sym, ◌∙◌}
use lib.Dec.{eqb}
use lib.ListN.{get_or}
use borrow.Author.Rules.{rules}
use Rattle.validity.proofs.MarksLaws.{message-at}
use Rattle.validity.proofs.names_message.Goals as goal

pub returns : goal.returns
returns c =
    let a = c.args in
    ap (λ (j : ℕ). eqb (get_or a.unnamed.now (j + a.x) 0) 0) c.messages_from.ensures
    ∙ sym (message-at a.unnamed.now a.sent a.x (search rules))
