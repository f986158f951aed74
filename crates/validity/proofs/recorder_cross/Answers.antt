-- Its rules in turn, its current view's index found. Assumes nothing.
use Prim.Native.Nat.{ℕ, ◌+◌, ◌-◌, ◌*◌}
use mathlib.Core.Path.{sym, ap, ap₂, subst, ◌∙◌}
use mathlib.Core.Bool.{◌&&◌, ◌||◌, and_assoc}
use lib.Dec.{eqb}
use Rattle.base.specs.Lists.{has, all}
use Rattle.base.specs.Numbers.{up_to}
use Rattle.quorum.specs.Sets.{members}
use Rattle.model.specs.Hall.{max_recorders}
use Rattle.store.specs.Layout.{recorder_heard_at, recorder_safe_sources_at, recorder_size, recorders_at}
use Rattle.ranges.specs.TableParts.{Found}
use Rattle.validity.specs.Marks.{heard_ok, source_ok}
use Rattle.validity.specs.RawHall.{size_at, view_count}
use Rattle.validity.proofs.CrossPartsLaws.{recorder-cross}
use Rattle.validity.proofs.recorder_cross.Goals as goal

pub returns : goal.returns
returns c =
    let a = c.args in
    let h = c.requires in
    let b = a.b.now in
    let i = c.find_view-i.result in
    let at : ℕ = recorders_at + (a.r - 1) * recorder_size in
    let g = c.get_u32-g.ensures in
    let s = c.view_set-set.ensures in
    simp and_assoc
    (ap₂ ◌&&◌ (c.in_view.ensures ∙ ap₂ (λ (z w : ℕ). eqb z 0 || has (members (size_at b) w) a.r) g s)
    (ap₂ ◌&&◌ c.names_set.ensures
    (ap₂ ◌&&◌ c.names_all.ensures
    (ap₂ ◌&&◌ c.names_all-2.ensures
    (ap₂ ◌&&◌ c.names_set-2.ensures
    (ap₂ ◌&&◌ (c.heard_all.ensures ∙ ap (λ (w : ℕ). all (heard_ok b (at + recorder_heard_at) w i) (up_to max_recorders)) s)
    (c.source_all.ensures ∙ ap (λ (w : ℕ). all (source_ok b (at + recorder_safe_sources_at) w) (up_to max_recorders)) s)))))))
    ∙ sym
    (recorder-cross b h.0.ranged.held a.unnamed.now h.0.labels a.r h.1.0 h.1.1 i
    (subst (λ (z : ℕ). Found (view_count b) b z i) g c.find_view-i.ensures))
