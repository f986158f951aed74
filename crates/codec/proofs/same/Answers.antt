-- `==` on slices compares their bytes. Assumes nothing.
use Rattle.std.proofs.Common.{◌∙◌}
use Rattle.codec.proofs.BytesLaws.{same-pointwise}
use Rattle.codec.proofs.same.Goals as goal

pub returns : goal.returns
returns c = c.eq.ensures ∙ same-pointwise _ _
