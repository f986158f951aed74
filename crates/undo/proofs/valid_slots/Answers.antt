-- Each slot is tested, and then the other places. Assumes nothing.
use borrow.Author.Rules.{rules}
use Prim.Native.Nat.{ℕ, ◌+◌, ◌-◌, ◌*◌, ◌≤◌}
use mathlib.Core.Bool.{Bool, ◌&&◌}
use mathlib.Core.List.{List}
use mathlib.Core.Path.{◌≡◌, refl, sym, ap, ◌∙◌}
use Rattle.std.specs.List.{list_all, range_with_len}
use Rattle.std.proofs.lemmas.Iterator.{YieldsList-from_range}
use Rattle.std.proofs.lemmas.Iterator.Search.{all_from_yields_List}
use Rattle.codec.specs.Bytes.{part, all_zero}
use Rattle.codec.specs.Cells.{cells}
use Rattle.ranges.proofs.Loops.{cells-list}
use Rattle.undo.specs.Buffer.{slot_form, slot_size, max_slots, undo_length}
use Rattle.undo.proofs.valid_slots.Goals as goal

module _ (u : List ℕ) where
  abbrev valid : ℕ → Bool
  valid i = slot_form.valid (part (1 + i * slot_size) slot_size u)

  -- t tells whether each of the m slots is valid
  by_slots : (m : ℕ) → m ≤ max_slots → (t : Bool) → t ≡ list_all valid (range_with_len 0 m)
      → (t && all_zero (part (1 + m * slot_size) (undo_length - (1 + m * slot_size)) u)) ≡ (cells slot_form m max_slots).valid (part 1 (max_slots * slot_size) u)
  by_slots m few t each =
      ap (λ (t : Bool). t && all_zero (part (1 + m * slot_size) (undo_length - (1 + m * slot_size)) u)) each
      ∙ cells-list slot_form 1 m u max_slots undo_length few refl

pub returns-then-all : goal.returns-then-all
returns-then-all c =
    let u = c.args.u.now in
    let m = c.args.m in
    c.is_zero.ensures
    ∙ by_slots u m c.requires.0 _
    (sym c.if-all.true
    ∙ all_from_yields_List (valid u) _ _ c.all.result c.all.ensures.ran (YieldsList-from_range 0 m m refl (search rules)) (λ i r q k. search rules))

pub returns-else-all : goal.returns-else-all
returns-else-all c =
    let u = c.args.u.now in
    let m = c.args.m in
    c.if-all.false
    ∙ by_slots u m c.requires.0 _
    (sym c.if-all.false
    ∙ all_from_yields_List (valid u) _ _ c.all.result c.all.ensures.ran (YieldsList-from_range 0 m m refl (search rules)) (λ i r q k. search rules))
