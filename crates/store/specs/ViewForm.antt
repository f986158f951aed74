-- The stored form of the formed views: their count, then number and set of each, rising. Assumes nothing.
use Rattle.std.specs.Prelude.{ℕ, Bool, List, [], map}
use Rattle.base.specs.Lists.{rising}
use Rattle.model.specs.Hall.{max_views, max_number}
use Rattle.codec.specs.Form.{Form, mapped, guarded}
use Rattle.codec.specs.Number.{number}
use Rattle.codec.specs.Pair.{pair}
use Rattle.codec.specs.Bounded.{bounded}
use Rattle.codec.specs.Table.{lookup}
use Rattle.store.specs.Layout.{number_size, view_size, views_size}
use Rattle.store.specs.Valid.{ViewsIn}
use Rattle.store.specs.Masks.{set_form}

-- a view's number and set
unfoldable pub view_form : ℕ → Form (ℕ × List ℕ) view_size
view_form n = pair (number number_size 0 1 max_number) (set_form n)

-- the numbers of a list of views, and their sets
abbrev pub numbers_of : List (ℕ × List ℕ) → List ℕ
numbers_of xs = map (λ (x : ℕ × List ℕ). x.0) xs

abbrev pub sets_of : List (ℕ × List ℕ) → List (List ℕ)
sets_of xs = map (λ (x : ℕ × List ℕ). x.1) xs

-- "numbers rising"
unfoldable pub numbers_rise : List (ℕ × List ℕ) → Bool
numbers_rise xs = rising 0 (numbers_of xs)

unfoldable pub view_list : ℕ → Form (List (ℕ × List ℕ)) views_size
view_list n = guarded (bounded (view_form n) max_views) numbers_rise

-- the views as the hall has them: their numbers, and the set of each number
abbrev pub Views : Type 0
Views = List ℕ × (ℕ → List ℕ)

abbrev pub to_views : List (ℕ × List ℕ) → Views
to_views xs = (numbers_of xs, lookup (numbers_of xs) [] (sets_of xs))

abbrev pub from_views : Views → List (ℕ × List ℕ)
from_views v = map (λ (g : ℕ). (g, v.1 g)) v.0

abbrev pub ViewsOk : ℕ → Views → Type 0
ViewsOk n v = ViewsIn n v.0 v.1

-- "the formed views, at most 32, numbers rising, sets not empty and within N"
unfoldable pub views_form : ℕ → Form Views views_size
views_form n = mapped (view_list n) to_views from_views (ViewsOk n)
