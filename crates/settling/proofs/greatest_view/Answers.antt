-- The last formed view is the greatest. Assumes nothing.
use mathlib.Core.Path.{subst}
use Rattle.store.specs.StoredForm.{hall_of}
use Rattle.hall.specs.Parts.{ViewIs}
use Rattle.settling.proofs.CopyLaws.{last_view}
use Rattle.settling.proofs.greatest_view.Goals as goal

pub returns : goal.returns
returns c =
    let a = c.args in
    let p = c.requires in
    subst (λ g. ViewIs (hall_of a.b.now) g c.read_view.result) (last_view a.b.now a.count p.0 p.2) c.read_view.ensures.view_is
