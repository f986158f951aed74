-- Its offset, its length, its bytes, zeros. Assumes nothing.
use Prim.Native.Nat.{ℕ, ◌+◌, ◌-◌, ◌≤◌}
use native.Mathlib.Omega.{arith}
use mathlib.Core.Path.{ap, ◌∙◌}
use mathlib.Core.List.{List}
use lib.ListN.{length}
use lib.Seq.{sets}
use Rattle.codec.specs.Bytes.{part, zeros}
use Rattle.codec.specs.Number.{digits}
use Rattle.codec.proofs.PutBack.{part_length}
use Rattle.undo.specs.Parts.{part_of}
use Rattle.undo.specs.Code.{place_in}
use Rattle.undo.proofs.PartAt.{Bytes, bytes-part, part-written}
use Rattle.undo.proofs.put_part.Goals as goal

pub returns : goal.returns
returns c =
    let a = c.args in
    let b = a.b.now in
    let k : Bytes b = λ i. (c.type_inv.b i).fits in
    let inside : a.p.offset + a.p.size ≤ length b = omega (arith, c.requires.size_le_room.1) in
    c.clear.ensures
    ∙ ap (λ (z : List ℕ). sets z (a.at + 8 + a.p.size) (zeros (a.at + 8 + a.room - (a.at + 8 + a.p.size))))
    (c.copy_bytes.ensures
    ∙ ap (λ (z : List ℕ). sets z (a.at + 8) (part a.p.offset a.p.size b))
    (c.put_u32-2.ensures
    ∙ ap (λ (z : List ℕ). sets z (a.at + 4) (digits 4 a.p.size)) c.put_u32.ensures))
    ∙ part-written a.room (part_of b (place_in a.p)) (bytes-part a.p.offset a.p.size b inside k) a.u.now a.at a.p.size (part_length a.p.offset a.p.size b inside)
