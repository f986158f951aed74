-- What is gathered is 0 just where each key before it is another. Assumes nothing.
use borrow.Author.Rules.{rules}
use Prim.Native.Nat.{ℕ}
use native.Mathlib.Omega.{arith}
use mathlib.Core.Path.{◌≡◌, ap, ◌∙◌}
use mathlib.Core.Bool.{Bool, not, ◌&&◌}
use lib.Bits.{bit_or}
use lib.Dec.{eqb}
use lib.ListN.{get_or, take}
use Rattle.std.proofs.iter.Yields.{fronts, slice_gives}
use Rattle.base.specs.Lists.{bit, all}
use Rattle.codec.proofs.Gathering.{or-zero}
use Rattle.validity.specs.CrossParts.{key_alone}
use Rattle.validity.proofs.ChainLaws.{gathered, all-take}
use Rattle.validity.proofs.MarksLaws.{bit-zero}
use Rattle.validity.proofs.key_alone.Goals as goal

pub returns : goal.returns
unfolding key_alone
returns c =
    let ks = c.args.keys.now in
    let key : ℕ = get_or ks c.args.i 0 in
    let t : ℕ → Bool = λ x. not (eqb x key) in
    let r : c.iter.result.rest.now ≡ take c.args.i ks = search rules in
    gathered fronts (λ y. y.now) _ _ t _ _ c.fold.result (slice_gives c.iter.result)
    (λ a x z h k.
    let e : z ≡ bit_or a (bit (eqb x.now key)) = search rules in
    (ap (λ n. eqb n 0) e ∙ or-zero a (bit (eqb x.now key)) ∙ ap (λ (v : Bool). eqb a 0 && v) (bit-zero (eqb x.now key)), search rules))
    c.fold.ensures.ran
    ∙ ap (all t) r
    ∙ all-take t ks c.args.i (omega (arith, c.requires, c.fits-keys))
