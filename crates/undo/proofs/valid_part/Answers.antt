-- Past its room, past the hall's end, or by the zeros. Assumes nothing.
use native.Mathlib.Omega.{arith}
use borrow.Author.Rules.{rules}
use borrow.Author.Tests.{leb-false}
use Prim.Native.Nat.{ℕ, ◌+◌, ◌-◌}
use mathlib.Core.Path.{sym, ap, ◌∙◌}
use Rattle.codec.specs.Bytes.{part, all_zero}
use Rattle.store.specs.Layout.{stored_length}
use Rattle.undo.proofs.PartAt.{Bytes, part-over, part-past, part-zeros}
use Rattle.undo.proofs.valid_part.Goals as goal
use Rattle.undo.proofs.valid_part.Goals.{then-size-room, else-size-room}

pub returns-then-offset-size-le-LENGTH : goal.returns-then-offset-size-le-LENGTH
returns-then-offset-size-le-LENGTH c =
    let a = c.args in
    let u = a.u.now in
    let size = sym c.get_u32-size.ensures in
    elim c.if-size-room.branch [
      | then-size-room w ↦
          c.is_zero.ensures
          ∙ ap (λ (n : ℕ). all_zero (part (a.at + 8 + n) (a.at + 8 + a.room - (a.at + 8 + n)) u)) (sym size)
          ∙ sym (part-zeros a.room a.at u c.requires.1 (λ i. (c.type_inv.u i).fits) (search rules) (search rules))
      | else-size-room w ↦ search rules
    ]

pub returns-else-offset-size-le-LENGTH : goal.returns-else-offset-size-le-LENGTH
returns-else-offset-size-le-LENGTH c =
    let a = c.args in
    let u = a.u.now in
    let size = sym c.get_u32-size.ensures in
    let offset = sym c.get_u32-offset.ensures in
    let bytes : Bytes u = λ i. (c.type_inv.u i).fits in
    elim c.if-size-room.branch [
      | then-size-room w ↦
          let past = leb-false _ stored_length (sym w.value-is ∙ c.if-offset-size-le-LENGTH.false) in
          c.if-offset-size-le-LENGTH.false ∙ sym (part-past a.room a.at u c.requires.1 bytes (omega (arith, size, w.if-size-room)) (omega (arith, size, offset, past)))
      | else-size-room w ↦
          c.if-offset-size-le-LENGTH.false ∙ sym (part-over a.room a.at u c.requires.1 bytes (omega (arith, size, w.if-size-room)))
    ]
