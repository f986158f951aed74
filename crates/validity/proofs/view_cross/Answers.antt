-- The queue, and the endpoints. Assumes nothing.
use Prim.Native.Nat.{ℕ}
use mathlib.Core.Path.{sym, ap, ap₂, ◌∙◌}
use mathlib.Core.Bool.{◌&&◌}
use Rattle.base.specs.Numbers.{up_to}
use Rattle.base.specs.Lists.{all}
use Rattle.store.specs.Valid.{endpoint_cross}
use Rattle.ranges.specs.TableParts.{view_at}
use Rattle.validity.specs.RawHall.{raw}
use Rattle.validity.proofs.RawHallLaws.{raw-size}
use Rattle.validity.proofs.view_cross.Goals as goal

pub returns : goal.returns
returns c =
    let b = c.args.b.now in
    ap₂ ◌&&◌ c.names_queue.ensures
    (c.endpoints_cross.ensures
    ∙ ap (λ (n : ℕ). all (endpoint_cross (raw b) (view_at b c.args.i)) (up_to n)) (sym (raw-size b c.requires.0.ranged.held)))
