-- Where N, the formed views and the count of entries stand in a hall's stored form. They are read; what changes them,
-- forming a view and submitting an entry, is in `Growth`. Assumes nothing.
use Prim.Native.Nat.{ℕ, zero, suc, ◌+◌, ◌*◌, ◌≤◌, ◌<◌}
use native.Mathlib.Omega.{arith}
use native.Mathlib.Nat.{not-suc-le-zero, le_of_suc-le-suc}
use mathlib.Core.Path.{◌≡◌, refl, sym, subst}
use mathlib.Core.List.{List, [], ◌∷◌, map}
use lib.Dec.{lit<}
use lib.ListN.{length, get_or, length-map}
use Rattle.model.specs.Hall.{max_views, max_recorders, Hall}
use Rattle.codec.specs.Form.{renamed}
use Rattle.codec.specs.Number.{byte}
use Rattle.codec.proofs.FormLaws.{renaming}
use Rattle.codec.proofs.NumberLaws.{byte-lawful}
use Rattle.codec.proofs.BoundedLaws.{bounded-count, bounded-cell}
use Rattle.codec.proofs.Piece.{View, head, tail, inner-view, mapped-view, guarded-view, restated-view}
use Rattle.store.specs.Layout.{views_at, view_cells, view_size}
use Rattle.store.specs.Cells.{entry_at, recorder_at, endpoint_at}
use Rattle.store.specs.ViewForm.{ViewsOk, to_views, from_views, view_form, numbers_rise, view_list, views_form}
use Rattle.store.specs.HallForm.{body_form, after_size, fields, to_hall, from_hall, views_of, hall_fields}
use Rattle.store.proofs.ViewFormLaws.{view-lawful, views-inverse}

-- N
pub size-view : View hall_fields (byte 1 max_recorders) 0 (λ h. Unit {0}) (λ h. h.size)
unfolding hall_fields renamed fields entry_at recorder_at endpoint_at
size-view =
    mapped-view to_hall from_hall (λ h. fields.ok (from_hall h)) (renaming fields to_hall from_hall (λ h. refl) (λ t. refl))
    (head (byte 1 max_recorders) after_size)

get_d_map : {A B : Type 0} (f : A → B) (xs : List A) (i : ℕ) (d : A) (e : B) → i < length xs → get_or (map f xs) i e ≡ f (get_or xs i d)
get_d_map f [] i d e h = absurd (not-suc-le-zero h)
get_d_map f (x ∷ xs) zero d e h = refl
get_d_map f (x ∷ xs) (suc i) d e h = get_d_map f xs i d e (le_of_suc-le-suc h)

-- the formed views of a hall of n recorders
module _ (n : ℕ) (l : n ≤ max_recorders) where
  views-view : View hall_fields (views_form n) views_at (λ h. h.size ≡ n) views_of
  unfolding hall_fields renamed fields after_size entry_at recorder_at endpoint_at
  views-view =
      restated-view
      (mapped-view to_hall from_hall (λ h. fields.ok (from_hall h)) (renaming fields to_hall from_hall (λ h. refl) (λ t. refl))
      (inner-view (tail (byte 1 max_recorders) after_size (byte-lawful 1 max_recorders (lit< tt)) n).view (head (views_form n) (body_form n))))
      (λ h. h.size ≡ n) views_of (λ h o e. (e, tt)) (λ h o e. refl)

  -- how many they are
  pub view_count-view : View hall_fields (byte 0 max_views) views_at (λ h. h.size ≡ n) (λ h. length h.service.created)
  unfolding views_form view_list
  view_count-view =
      restated-view
      (inner-view views-view
      (mapped-view to_views from_views (ViewsOk n) (views-inverse n)
      (guarded-view numbers_rise (bounded-count (view_form n) max_views (view-lawful n l) (lit< tt)))))
      (λ h. h.size ≡ n) (λ h. length h.service.created)
      (λ h o e. (e, tt)) (λ h o e. length-map h.service.created (λ (g : ℕ). (g, h.service.members g)))

  -- number and set of the view at index i
  pub view-view : (i : ℕ) → View hall_fields (view_form n) (view_cells + i * view_size) (λ h. (h.size ≡ n) × (i < length h.service.created))
      (λ h. (get_or h.service.created i 0, h.service.members (get_or h.service.created i 0)))
  unfolding views_form view_list
  view-view i =
      subst (λ (o : ℕ). View hall_fields (view_form n) o on get) (omega arith)
      (restated-view
      (inner-view views-view
      (mapped-view to_views from_views (ViewsOk n) (views-inverse n)
      (guarded-view numbers_rise (bounded-cell (view_form n) max_views (view-lawful n l) (lit< tt) i (0, [])).view)))
      on get
      (λ h o q. (q.0, subst (λ (m : ℕ). i < m) (sym (length-map h.service.created (λ (g : ℕ). (g, h.service.members g)))) q.1))
      (λ h o q. get_d_map (λ (g : ℕ). (g, h.service.members g)) h.service.created i 0 (0, []) q.1))
    where
      on : Hall → Type 0
      on h = (h.size ≡ n) × (i < length h.service.created)

      get : Hall → ℕ × List ℕ
      get h = (get_or h.service.created i 0, h.service.members (get_or h.service.created i 0))
