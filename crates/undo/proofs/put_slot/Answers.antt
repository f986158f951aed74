-- The words, the first part, the second. Assumes nothing.
use Prim.Native.Nat.{ℕ, ◌+◌}
use native.Mathlib.Omega.{arith}
use mathlib.Core.Path.{ap, ap₂, ◌∙◌}
use mathlib.Core.List.{List}
use lib.Seq.{sets}
use Rattle.model.specs.Call.{words_of}
use Rattle.model.specs.KindNumbers.{kind_number}
use Rattle.store.specs.Layout.{recorder_size, endpoint_size}
use Rattle.store.proofs.StoredFormLaws.{is_stored-long}
use Rattle.undo.specs.Buffer.{part_form}
use Rattle.undo.specs.Parts.{Places, part_of, slot_of}
use Rattle.undo.proofs.PartsCover.{parts-inside, parts-small, accepted-small, slot_ok}
use Rattle.undo.proofs.SlotAt.{first_at, second_at, slot-written}
use Rattle.undo.proofs.put_slot.Goals as goal

pub put_part-requires-clause-size_le_room : goal.put_part-requires-clause-size_le_room
put_part-requires-clause-size_le_room c =
    let p = c.requires.0 in
    let e = c.parts_of-p.ensures in
    let size = ap (λ (q : Places). q.first.size) e in
    let at = ap (λ (q : Places). q.first.offset) e in
    let w = words_of (kind_number c.args.k) c.args.r c.args.a c.args.d in
    (omega (arith, size, (parts-small _ p.holds w p.low).0), omega (arith, size, at, (parts-inside _ p.holds w p.low).0), is_stored-long _ p.holds)

pub put_part-requires-2-clause-size_le_room : goal.put_part-requires-2-clause-size_le_room
put_part-requires-2-clause-size_le_room c =
    let p = c.requires.0 in
    let e = c.parts_of-p.ensures in
    let size = ap (λ (q : Places). q.second.size) e in
    let at = ap (λ (q : Places). q.second.offset) e in
    let w = words_of (kind_number c.args.k) c.args.r c.args.a c.args.d in
    (omega (arith, size, (parts-small _ p.holds w p.low).1), omega (arith, size, at, (parts-inside _ p.holds w p.low).1), is_stored-long _ p.holds)

pub returns : goal.returns
unfolding slot_of
returns c =
    let a = c.args in
    let b = a.b.now in
    let w = words_of (kind_number a.k) a.r a.a a.d in
    let p = c.requires.0 in
    let e = c.parts_of-p.ensures in
    let low = accepted-small b p.holds w p.low p.accepts in
    c.put_part-2.ensures
    ∙ ap₂ (λ (z : List ℕ) (q : Places). sets z (a.at + second_at) ((part_form endpoint_size).encode (part_of b q.second)))
    (c.put_part.ensures
    ∙ ap₂ (λ (z : List ℕ) (q : Places). sets z (a.at + first_at) ((part_form recorder_size).encode (part_of b q.first))) c.put_words.ensures e)
    e
    ∙ slot-written a.u.now a.at (slot_of b w) (slot_ok b p.holds w low.0 low.1 p.low low.2)
