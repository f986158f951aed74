-- The two tests are those of the form. Assumes nothing.
use mathlib.Core.Path.{sym}
use Rattle.ranges.proofs.Parts.{byte-part}
use Rattle.ranges.proofs.valid_byte.Goals as goal

pub returns : goal.returns
returns c =
    let a = c.args in
    sym (byte-part a.lo a.hi a.at a.b.now c.requires)
