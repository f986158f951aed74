-- The bytes are filled with 0. Assumes nothing.
use Rattle.std.proofs.Common.{◌-◌, ◌≡◌, ◌∙◌, arith, ap}
use Rattle.std.proofs.lemmas.List.{length-replicate}
use Rattle.codec.specs.Bytes.{zeros}
use Rattle.codec.proofs.BytesLaws.{part-written}
use Rattle.codec.proofs.PutBack.{part_length}
use Rattle.codec.proofs.clear.Goals as goal

pub returns : goal.returns
returns c =
    let a = c.args in
    let n = a.to - a.from in
    let filled : c.fill.new.self ≡ zeros n = c.fill.ensures.after (λ y e. e) ∙ ap zeros (part_length a.from n a.b.now (omega arith)) in
    part-written a.b.now a.from a.to _ (zeros n) filled (length-replicate n 0) c.requires.0 c.requires.1
