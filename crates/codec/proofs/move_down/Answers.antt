-- The bytes are copied to their place. Assumes nothing.
use Rattle.std.proofs.Common.{◌+◌, ◌-◌, ◌≡◌, ◌∙◌, arith, ap, drop, length-drop}
use lib.Seq.{paste}
use Rattle.codec.proofs.BytesLaws.{paste-sets}
use Rattle.codec.proofs.move_down.Goals as goal

pub returns : goal.returns
returns c =
    let a = c.args in
    let e : a.from + a.n - a.from ≡ a.n = omega arith in
    c.copy_within.ensures.after
    ∙ ap (paste a.b.now a.to (drop a.from a.b.now)) e
    ∙ paste-sets a.b.now a.to (drop a.from a.b.now) a.n (omega arith) (omega (arith, length-drop a.from a.b.now))
