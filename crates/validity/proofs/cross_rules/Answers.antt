-- Votes, labels, recorders and views. Assumes nothing.
use mathlib.Core.Path.{refl, sym, ap₂, ◌∙◌}
use mathlib.Core.Bool.{◌&&◌, and_assoc}
use Rattle.validity.proofs.CrossPartsLaws.{labels_apart_lem, cross-parts}
use Rattle.validity.proofs.cross_rules.Goals as goal

pub returns : goal.returns
returns c =
    let b = c.args.b.now in
    let K = c.requires.held in
    simp and_assoc
    (ap₂ ◌&&◌ c.has_votes.ensures
    (ap₂ ◌&&◌ (c.labels_alone.ensures ∙ sym (labels_apart_lem b K)) (ap₂ ◌&&◌ c.recorders_cross.ensures c.views_cross.ensures))
    ∙ sym (cross-parts b K))

pub recorders_cross-requires : goal.recorders_cross-requires
recorders_cross-requires c = (record { ranged = c.requires; labels = c.unnamed_of-unnamed.ensures }, refl)
