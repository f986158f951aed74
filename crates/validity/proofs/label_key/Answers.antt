-- By whether there is a label. Assumes nothing.
use mathlib.Core.Path.{sym}
use Rattle.validity.proofs.KeyLaws.{key-none, key-some}
use Rattle.validity.proofs.label_key.Goals as goal

pub returns-then-sequence-eq0 : goal.returns-then-sequence-eq0
returns-then-sequence-eq0 c =
    let a = c.args in
    sym (key-none a.view a.sequence a.sender a.i c.if-sequence-eq0.true)

pub returns-else-sequence-eq0 : goal.returns-else-sequence-eq0
returns-else-sequence-eq0 c =
    let a = c.args in
    sym (key-some a.view a.sequence a.sender a.i c.if-sequence-eq0.false)
