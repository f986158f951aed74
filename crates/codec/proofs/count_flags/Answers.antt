-- Each flag in turn adds 1 or 0. Assumes nothing.
use native.Mathlib.Omega.{arith}
use mir.Val.{bool_byte}
use mathlib.Core.Bool.{Bool, true, false}
use mathlib.Core.Path.{◌≡◌, refl, sym, ap, ◌∙◌}
use Rattle.base.specs.Lists.{bit}
use Rattle.base.proofs.ListsLaws.{bit-small}
use Rattle.codec.specs.Flags.{set_of}
use Rattle.codec.proofs.FlagsLaws.{count_none, count-more}
use Rattle.codec.proofs.count_flags.Goals as goal

byte-bit : (t : Bool) → bool_byte t ≡ bit t
byte-bit true = refl
byte-bit false = refl

pub loop-i-init : goal.loop-i-init
loop-i-init c = record { within = omega arith; small = omega arith; sum = sym (count_none (set_of c.args.row.now)) }

pub loop-i-preserved : goal.loop-i-preserved
loop-i-preserved c =
    let l = c.loop-i in
    let p = set_of c.args.row.now in
    let k = c.has_flag in
    let one = c.from-sum.ensures ∙ byte-bit k.result in
    record {
      within = omega arith;
      small = omega (arith, one, bit-small k.result);
      sum = omega (arith, l.invariant.sum, one, ap bit k.ensures, count-more p l.i);
    }
