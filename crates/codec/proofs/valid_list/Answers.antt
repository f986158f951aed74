-- The count, the bytes in range and the zeros are what the form tests. Assumes nothing.
use Prim.Native.Nat.{◌+◌, ◌-◌}
use mathlib.Core.Path.{refl, ap, sym, ◌∙◌}
use mathlib.Core.Bool.{Bool, ◌&&◌}
use lib.ListN.{get_or}
use borrow.Author.Tests.{lt-leb}
use Rattle.base.proofs.Bools.{not-both}
use Rattle.codec.specs.Bytes.{part, all_zero}
use Rattle.codec.proofs.ByteListLaws.{valid-list, valid-list-over}
use Rattle.codec.proofs.valid_list.Goals as goal
use Rattle.codec.proofs.valid_list.Goals.{then-n-cap, else-n-cap}

pub returns-then-all_in : goal.returns-then-all_in
returns-then-all_in c =
    let a = c.args in
    elim c.if-n-cap.branch [
      | then-n-cap w ↦
          sym
          (valid-list a.lo a.hi a.cap a.at a.b.now c.requires w.if-n-cap.true w.all_in.result c.is_zero.result w.all_in.ensures c.is_zero.ensures
          ∙ ap (λ (t : Bool). t && c.is_zero.result) (sym w.value-is ∙ c.if-all_in.true))
      | else-n-cap w ↦ absurd (not-both c.if-all_in.true (w.value-is ∙ lt-leb _ _ w.if-n-cap.false))
    ]

pub returns-else-all_in : goal.returns-else-all_in
returns-else-all_in c =
    let a = c.args in
    let n = get_or a.b.now a.at 0 in
    let z = all_zero (part (a.at + 1 + n) (a.at + 1 + a.cap - (a.at + 1 + n)) a.b.now) in
    elim c.if-n-cap.branch [
      | then-n-cap w ↦
          c.if-all_in.false
          ∙ sym
          (valid-list a.lo a.hi a.cap a.at a.b.now c.requires w.if-n-cap.true w.all_in.result z w.all_in.ensures refl
          ∙ ap (λ (t : Bool). t && z) (sym w.value-is ∙ c.if-all_in.false))
      | else-n-cap w ↦ c.if-all_in.false ∙ sym (valid-list-over a.lo a.hi a.cap a.at a.b.now c.requires w.if-n-cap.false)
    ]
