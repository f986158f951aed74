-- The empty undo buffer, all zeros, is in form and holds none. Assumes nothing.
use Prim.Native.Nat.{ℕ}
use native.Mathlib.Omega.{arith}
use mathlib.Core.Path.{◌≡◌, sym, ap, ap₂, ◌∙◌}
use mathlib.Core.Bool.{true}
use mathlib.Core.List.{List, [], ◌++◌}
use lib.ListN.{length-replicate}
use lib.Seq.{drop_at}
use Rattle.codec.specs.Bytes.{zeros}
use Rattle.codec.proofs.Blank.{blank-bounded}
use Rattle.undo.specs.Buffer.{slot_form, undo_form, max_slots, undo_length, is_undo, held_in, with_held}
use Rattle.undo.proofs.BufferLaws.{with-is_undo, with-held_in}

module _ (rest : List ℕ) where
  abbrev u : List ℕ
  u = zeros undo_length ++ rest

  none_written : with_held u [] ≡ u
  unfolding with_held undo_form
  none_written = ap₂ ◌++◌ (blank-bounded slot_form max_slots) (drop_at (zeros undo_length) rest undo_length (length-replicate {A = ℕ} undo_length 0))

  pub empty-undo : (is_undo (zeros undo_length ++ rest) ≡ true) × (held_in (zeros undo_length ++ rest) ≡ [])
  empty-undo = (ap is_undo (sym none_written) ∙ with-is_undo u [] (omega arith, tt), ap held_in (sym none_written) ∙ with-held_in u [] (omega arith, tt))
