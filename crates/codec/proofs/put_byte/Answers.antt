-- A byte is its own digit. Assumes nothing.
use mathlib.Core.Path.{ap, sym}
use mathlib.Core.List.{List}
use Prim.Native.Nat.{ℕ}
use lib.Seq.{sets}
use Rattle.codec.proofs.NumberLaws.{digits-byte}
use Rattle.codec.proofs.put_byte.Goals as goal

pub returns : goal.returns
returns c =
    let a = c.args in
    ap (λ (xs : List ℕ). sets a.b.now a.at xs) (sym (digits-byte a.v c.ranges.v.fits))
