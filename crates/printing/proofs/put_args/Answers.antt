-- One word after the other, by the row of the kind. Assumes nothing.
use mathlib.Core.Path.{sym}
use mathlib.Core.List.{◌++◌}
use Rattle.words.specs.Words.{use_of}
use Rattle.text.proofs.TextLaws.{wrote-length, then}
use Rattle.story.specs.Printing.{arg_fields}
use Rattle.printing.specs.Lines.{spaced}
use Rattle.printing.proofs.FieldsLaws.{room-first, room-rest, room_as, wrote_as}
use Rattle.printing.proofs.ActionLaws.{fields-of-row}
use Rattle.printing.proofs.put_args.Goals as goal

pub put_arg-after_r-requires : goal.put_arg-after_r-requires
put_arg-after_r-requires c =
    let a = c.args in
    let u = c.uses_of-of_r in
    room-first (spaced (arg_fields (use_of u.result.1) a.a) ++ spaced (arg_fields (use_of u.result.2) a.b)) (room_as (fields-of-row a.k a.r a.a a.b u.result u.ensures) c.requires)

pub put_arg-after_a-requires : goal.put_arg-after_a-requires
put_arg-after_a-requires c =
    let a = c.args in
    let u = c.uses_of-of_r in
    room-first (spaced (arg_fields (use_of u.result.2) a.b)) (room-rest c.put_arg-after_r.ensures (room_as (fields-of-row a.k a.r a.a a.b u.result u.ensures) c.requires))

pub put_arg-requires : goal.put_arg-requires
put_arg-requires c =
    let a = c.args in
    let u = c.uses_of-of_r in
    room-rest c.put_arg-after_a.ensures (room-rest c.put_arg-after_r.ensures (room_as (fields-of-row a.k a.r a.a a.b u.result u.ensures) c.requires))

pub returns : goal.returns
returns c =
    let a = c.args in
    let u = c.uses_of-of_r in
    wrote_as (sym (fields-of-row a.k a.r a.a a.b u.result u.ensures)) (then c.put_arg-after_r.ensures (then c.put_arg-after_a.ensures c.put_arg.ensures))

pub shape_of-out : goal.shape_of-out
shape_of-out c = wrote-length (returns c)
