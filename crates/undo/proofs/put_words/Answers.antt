-- One after the other. Assumes nothing.
use Prim.Native.Nat.{ℕ, ◌+◌}
use mathlib.Core.Path.{ap, ◌∙◌}
use mathlib.Core.List.{List}
use lib.Seq.{sets}
use Rattle.codec.specs.Number.{digits}
use Rattle.model.specs.KindNumbers.{kind_number}
use Rattle.undo.proofs.SlotAt.{words-written}
use Rattle.undo.proofs.put_words.Goals as goal

pub returns : goal.returns
returns c =
    let a = c.args in
    c.put_u32-4.ensures
    ∙ ap (λ (z : List ℕ). sets z (a.at + 12) (digits 4 a.b))
    (c.put_u32-3.ensures
    ∙ ap (λ (z : List ℕ). sets z (a.at + 8) (digits 4 a.a))
    (c.put_u32-2.ensures
    ∙ ap (λ (z : List ℕ). sets z (a.at + 4) (digits 4 a.r))
    (c.put_u32.ensures ∙ ap (λ (n : ℕ). sets a.u.now a.at (digits 4 n)) c.from.ensures)))
    ∙ words-written a.u.now a.at (kind_number a.k) a.r a.a a.b
