-- The four bytes stand in the order of the digits. Assumes nothing.
use Rattle.std.proofs.Common.{◌+◌, ◌/◌, ◌≡◌, ◌∙◌, arith}
use Rattle.codec.specs.Number.{digits}
use Rattle.codec.proofs.BytesLaws.{part-written}
use Rattle.codec.proofs.put_u32.Goals as goal

pub returns : goal.returns
unfolding digits
returns c =
    let a = c.args in
    let third : a.v / 65536 ≡ a.v / 256 / 256 = omega arith in
    let fourth : a.v / 16777216 ≡ a.v / 256 / 256 / 256 = omega arith in
    part-written a.b.now a.at (a.at + 4) _ (digits 4 a.v)
    (c.copy_from_slice.ensures.after ∙ c.to_le_bytes.ensures ∙ rw (third, fourth))
    (omega arith) (omega arith) c.requires
