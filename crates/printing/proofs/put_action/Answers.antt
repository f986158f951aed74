-- By whether the action has a line of its kind. Assumes nothing.
use Rattle.std.proofs.Common.{sym}
use Rattle.model.specs.Call.{words_of}
use Rattle.text.proofs.TextLaws.{wrote-length}
use Rattle.printing.proofs.FieldsLaws.{room_as, wrote_as}
use Rattle.printing.proofs.ActionLaws.{with-kind, without-line}
use Rattle.printing.proofs.put_action.Goals as goal

pub put_kind_line-requires : goal.put_kind_line-requires
put_kind_line-requires c =
    let a = c.args in
    room_as (with-kind a.k a.r a.a a.b c.in-Some.kind c.in-Some.ensures) c.requires

pub put_raw_line-requires : goal.put_raw_line-requires
put_raw_line-requires c =
    let a = c.args in
    room_as (without-line (words_of a.k a.r a.a a.b) c.in-None.ensures) c.requires

pub returns-in-Some : goal.returns-in-Some
returns-in-Some c =
    let a = c.args in
    wrote_as (sym (with-kind a.k a.r a.a a.b c.in-Some.kind c.in-Some.ensures)) c.put_kind_line.ensures

pub shape_of-out-in-Some : goal.shape_of-out-in-Some
shape_of-out-in-Some c = wrote-length (returns-in-Some c)

pub returns-in-None : goal.returns-in-None
returns-in-None c =
    let a = c.args in
    wrote_as (sym (without-line (words_of a.k a.r a.a a.b) c.in-None.ensures)) c.put_raw_line.ensures

pub shape_of-out-in-None : goal.shape_of-out-in-None
shape_of-out-in-None c = wrote-length (returns-in-None c)
