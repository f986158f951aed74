-- The invariant: the table has the labels of the entries passed. Assumes nothing.
use Prim.Native.Nat.{ℕ, ◌*◌}
use native.Mathlib.Omega.{arith}
use mathlib.Core.Path.{◌≡◌, refl, subst}
use mathlib.Core.Bool.{Bool}
use lib.Dec.{lit≤}
use lib.ListN.{get_or, length-set}
use Rattle.store.specs.Layout.{entries_at}
use Rattle.validity.specs.Marks.{byte_values, message_marked}
use Rattle.validity.proofs.CodeLaws.{passed_mark, table-start, table-next, table_done}
use Rattle.validity.proofs.unnamed_of.Goals as goal

pub loop-i-init : goal.loop-i-init
loop-i-init c = (refl, table-start c.args.b.now (2 * byte_values) (lit≤ tt))

pub loop-i-preserved : goal.loop-i-preserved
loop-i-preserved c =
    let l = c.loop-i in (
      simp length-set l.invariant.0,
      table-next c.args.b.now l.unnamed l.i (omega arith) (omega arith) c.flag_byte-x.result l.invariant.1 c.flag_byte-x.ensures,
    )

pub returns : goal.returns
returns c =
    let b = c.args.b.now in
    let l = c.loop-i in
    let e : l.i ≡ get_or b entries_at 0 = omega arith in
    table_done b l.unnamed c.requires.held (subst (λ (n : ℕ). (sent : Bool) (x : ℕ) → message_marked l.unnamed sent x ≡ passed_mark b n sent x) e l.invariant.1)
