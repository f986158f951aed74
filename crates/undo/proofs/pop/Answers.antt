-- Its place is cleared, and the count one less. Assumes nothing.
use Prim.Native.Nat.{ℕ, ◌+◌, ◌-◌, ◌*◌, ◌≤◌}
use native.Mathlib.Omega.{arith}
use mathlib.Core.Path.{◌≡◌, ap, ap₂, ◌∙◌}
use mathlib.Core.List.{List, [], ◌∷◌}
use lib.Seq.{sets}
use Rattle.codec.specs.Bytes.{zeros}
use Rattle.codec.proofs.NumberLaws.{digits-byte}
use Rattle.undo.specs.Buffer.{slot_size}
use Rattle.undo.proofs.BufferLaws.{held-slots}
use Rattle.undo.proofs.Rooms.{long-enough, pops}
use Rattle.undo.proofs.pop.Goals as goal

pub clear-requires : goal.clear-requires
clear-requires c =
    let u = c.args.u.now in
    let n = c.count-n.ensures.value in
    (omega arith, omega (arith, n, c.requires.some, (held-slots u c.requires.form).0, long-enough u c.requires.form))

pub put_byte-requires : goal.put_byte-requires
put_byte-requires c =
    let u = c.args.u.now in
    omega (arith, long-enough u c.requires.form, c.clear.auto.b)

pub returns : goal.returns
returns c =
    let u = c.args.u.now in
    let n = c.count-n in
    let m = n.result in
    let few : m ≤ 16 = n.ensures.small in
    let one : 1 + (m - 1 + 1) * slot_size - (1 + (m - 1) * slot_size) ≡ slot_size = omega arith in
    c.put_byte.ensures
    ∙ ap₂ (λ (x y : List ℕ). sets x 0 y)
    (c.clear.ensures ∙ ap (λ (k : ℕ). sets u (1 + (m - 1) * slot_size) (zeros k)) one) (digits-byte (m - 1) (omega arith))
    ∙ ap (λ (k : ℕ). sets (sets u (1 + (k - 1) * slot_size) (zeros slot_size)) 0 ((k - 1) ∷ [])) n.ensures.value
    ∙ pops u c.requires.form c.requires.some
