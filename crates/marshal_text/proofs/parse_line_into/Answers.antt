-- Assumes nothing.
use mathlib.Core.Path.{ap₂}
use Prim.Native.Nat.{ℕ}
use Rattle.calls.specs.Lent.{taken}
use Rattle.lent.proofs.Plain.{leaves-as}
use Rattle.story.specs.Parsing.{Line}
use Rattle.story.specs.Lent.{line_words, parse_lent}
use Rattle.marshal_text.proofs.parse_line_into.Goals as goal

pub returns : goal.returns
unfolding parse_lent
returns c =
    let a = c.args in
    let r = c.parse_line-read.ensures in
    leaves-as a.text.now a.out.now (ap₂ (λ (l : Line) (n : ℕ). taken (line_words l n)) r.0 r.1) (c.line_into.ensures a.text.now)
