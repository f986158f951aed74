-- Behind the older ones. Assumes nothing.
use Prim.Native.Nat.{ℕ, ◌+◌, ◌-◌, ◌*◌}
use mathlib.Core.Path.{subst, sym}
use Rattle.undo.specs.Buffer.{slot_size}
use Rattle.undo.specs.Code.{NewestAt}
use Rattle.undo.proofs.Rooms.{newest-there}
use Rattle.undo.proofs.newest_at.Goals as goal

pub returns : goal.returns
returns c =
    let u = c.args.u.now in
    let p = c.requires in
    subst (λ (n : ℕ). NewestAt u (1 + (n - 1) * slot_size)) (sym c.count.ensures.value) (newest-there u p.form p.some)
