-- The kinds of an arm write the same parts. Assumes nothing.
use mathlib.Core.Path.{◌∙◌}
use Rattle.model.specs.declared.kinds.Kind.TheVariants.{Submit, Label, Form, Place}
use Rattle.undo.specs.Parts.{places_of}
use Rattle.undo.proofs.FindingParts.{of-kind, alone-kinds, current-kinds, label-recorder, place-view}
use Rattle.undo.proofs.parts_of.Goals as goal

pub recorder_and_entry-requires : goal.recorder_and_entry-requires
recorder_and_entry-requires c = label-recorder c.args.k c.requires c.in-Label.is

pub recorder_and_endpoint-requires : goal.recorder_and_endpoint-requires
recorder_and_endpoint-requires c =
    let x = current-kinds c.args.k c.requires c.in-SendEntry.is in
    (x.has, x.viewed)

pub recorder_alone-requires : goal.recorder_alone-requires
recorder_alone-requires c = (alone-kinds c.args.k c.requires c.in-Enter.is).range

pub queue_and_endpoint-requires : goal.queue_and_endpoint-requires
queue_and_endpoint-requires c = place-view c.args.k c.requires c.in-Place.is

pub returns-in-Label : goal.returns-in-Label
unfolding places_of
returns-in-Label c = c.recorder_and_entry.ensures ∙ (of-kind c.args.k c.requires Label c.in-Label.is).places

pub returns-in-SendEntry : goal.returns-in-SendEntry
returns-in-SendEntry c = c.recorder_and_endpoint.ensures ∙ (current-kinds c.args.k c.requires c.in-SendEntry.is).places

pub returns-in-Enter : goal.returns-in-Enter
returns-in-Enter c = c.recorder_alone.ensures ∙ (alone-kinds c.args.k c.requires c.in-Enter.is).places

pub returns-in-Place : goal.returns-in-Place
unfolding places_of
returns-in-Place c = c.queue_and_endpoint.ensures ∙ (of-kind c.args.k c.requires Place c.in-Place.is).places

pub returns-in-Submit : goal.returns-in-Submit
unfolding places_of
returns-in-Submit c = c.grown.ensures ∙ rw c.entry_count.ensures.value (of-kind c.args.k c.requires Submit c.in-Submit.is).places

pub returns-in-Form : goal.returns-in-Form
unfolding places_of
returns-in-Form c = c.grown-in-Form.ensures ∙ rw c.view_count.ensures.value (of-kind c.args.k c.requires Form c.in-Form.is).places
