-- The fields, and the label. Assumes nothing.
use mathlib.Core.Bool.{and_assoc}
use lib.ListN.{get_or}
use native.Mathlib.Nat.{add_assoc}
use native.Mathlib.Omega.{arith}
use Prim.Native.Nat.{ℕ, ◌+◌, ◌<◌}
use Rattle.store.specs.Layout.{entry_payload_at, payload_size}
use Rattle.ranges.proofs.Parts.{view-number-part}
use Rattle.ranges.proofs.CellPartsLaws.{entry-part}
use Rattle.ranges.proofs.valid_entry.Goals as goal

pub returns : goal.returns
returns c =
    let a = c.args in
    let k : (i : ℕ) → get_or a.b.now i 0 < 256 = λ i. (c.type_inv.b i).fits in
    let any = view-number-part (a.at + entry_payload_at + payload_size) a.b.now (omega (arith, c.requires)) k in
    simp and_assoc (cc (simp add_assoc at (simp (and_assoc, any) at (entry-part a.n a.at a.b.now c.requires k))))
