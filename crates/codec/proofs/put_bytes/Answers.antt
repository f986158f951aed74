-- The first bytes of s in their place. Assumes nothing.
use Rattle.std.proofs.Common.{ℕ, ◌+◌, ◌≡◌, ◌∙◌, arith, ap, take, length-take-le}
use Rattle.codec.proofs.BytesLaws.{part-written}
use Rattle.codec.proofs.put_bytes.Goals as goal

pub returns : goal.returns
returns c =
    let a = c.args in
    let copied : c.copy_from_slice.new.self ≡ take a.n a.s.now = c.copy_from_slice.ensures.after ∙ ap (λ (k : ℕ). take k a.s.now) (omega arith) in
    part-written a.b.now a.at (a.at + a.n) _ (take a.n a.s.now) copied (omega (arith, length-take-le a.n a.s.now c.requires.0)) (omega arith) c.requires.1
