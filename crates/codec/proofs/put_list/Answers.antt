-- The count, the bytes and the zeros are written one after the other. Assumes nothing.
use Prim.Native.Nat.{ℕ, ◌+◌, ◌-◌}
use native.Mathlib.Omega.{arith}
use mathlib.Core.Path.{ap, ◌∙◌}
use mathlib.Core.List.{List}
use lib.ListN.{length-take}
use lib.Seq.{sets}
use Rattle.codec.specs.Bytes.{zeros}
use Rattle.codec.specs.ByteList.{items}
use Rattle.codec.proofs.ByteListLaws.{write-list}
use Rattle.codec.proofs.put_list.Goals as goal

pub returns : goal.returns
returns c =
    let a = c.args in
    c.clear.ensures
    ∙ ap (λ (z : List ℕ). sets z (a.at + 1 + a.l.len) (zeros (a.at + 1 + a.cap - (a.at + 1 + a.l.len)))) c.put_bytes.ensures
    ∙ write-list a.b.now a.at a.cap a.l.len (items a.l) (simp length-take (omega arith))
