-- The line has room. Assumes nothing.
use mathlib.Core.Path.{refl}
use native.Mathlib.Omega.{arith}
use Rattle.model.specs.Call.{words_of}
use Rattle.printing.proofs.FieldsLaws.{prints}
use Rattle.printing.proofs.ActionLaws.{action-short}
use Rattle.printing.proofs.print_action.Goals as goal

pub slice_bounds-put_action-end : goal.slice_bounds-put_action-end
slice_bounds-put_action-end c = refl

pub put_action-len-requires : goal.put_action-len-requires
put_action-len-requires c =
    let a = c.args in
    let w = words_of a.k a.r a.a a.b in
    let f = c.ranges in
    record { fits = omega (arith, action-short w f.k.fits f.r.fits f.a.fits f.b.fits) }

pub returns : goal.returns
returns c =
    let a = c.args in
    let w = words_of a.k a.r a.a a.b in
    let f = c.ranges in
    prints c.put_action-len.ensures (record { fits = omega (arith, action-short w f.k.fits f.r.fits f.a.fits f.b.fits) })
