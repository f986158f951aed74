-- What the code tests of a cell: an entry, a summary, a recorder, an endpoint, a queued message, a view.
-- Assumes nothing.
use Rattle.std.specs.Prelude.{ℕ, ◌+◌, Bool, true, false, not, ◌&&◌, List, eqb}
use Rattle.model.specs.Hall.{max_entries, max_order, max_recorders}
use Rattle.codec.specs.Bytes.{part}
use Rattle.codec.specs.Number.{mark}
use Rattle.codec.specs.Table.{flags}
use Rattle.store.specs.CellForms.{view_number}
use Rattle.store.specs.Layout.{number_size}

-- a label's view number and sequence number, both 0 or neither
unfoldable pub whole_label : ℕ → ℕ → Bool
whole_label g k = elim (eqb g 0) [ true ↦ eqb k 0 | false ↦ not (eqb k 0) ]

module _ (o : ℕ) (b : List ℕ) where
  -- what follows a recorder's order: marks, highest primary, sets
  unfoldable pub recorder_rest : Bool
  recorder_rest =
      let known : ℕ = o + 1 + 1 + number_size in
      let heard : ℕ = known + max_entries + max_entries in
      (mark (max_order + 1)).valid (part o 1 b)
      && ((mark (max_order + 1)).valid (part (o + 1) 1 b)
      && (view_number.valid (part (o + 1 + 1) number_size b)
      && ((flags max_entries).valid (part known max_entries b)
      && ((flags max_entries).valid (part (known + max_entries) max_entries b)
      && ((flags max_recorders).valid (part heard max_recorders b)
      && (flags max_recorders).valid (part (heard + max_recorders) max_recorders b))))))
