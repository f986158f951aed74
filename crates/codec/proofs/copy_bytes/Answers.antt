-- The bytes of s in their place. Assumes nothing.
use Rattle.std.proofs.Common.{ℕ, ◌+◌, ◌≡◌, ◌∙◌, arith, ap}
use Rattle.codec.specs.Bytes.{part}
use Rattle.codec.proofs.BytesLaws.{part-written}
use Rattle.codec.proofs.PutBack.{part_length}
use Rattle.codec.proofs.copy_bytes.Goals as goal

pub returns : goal.returns
returns c =
    let a = c.args in
    let copied : c.copy_from_slice.new.self ≡ part a.from a.n a.s.now = c.copy_from_slice.ensures.after ∙ ap (λ (k : ℕ). part a.from k a.s.now) (omega arith) in
    part-written a.b.now a.at (a.at + a.n) _ (part a.from a.n a.s.now) copied (omega (arith, part_length a.from a.n a.s.now)) (omega arith) c.requires.1
