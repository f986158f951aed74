-- The word, the words that the kind uses, and the end of the line. Assumes nothing.
use mathlib.Core.Path.{sym}
use mathlib.Core.List.{[], ◌∷◌, ◌++◌}
use Rattle.model.specs.Call.{words_of}
use Rattle.model.specs.KindNumbers.{kind_number}
use Rattle.text.proofs.TextLaws.{wrote-length, then}
use Rattle.story.specs.Printing.{kind_fields}
use Rattle.printing.specs.Lines.{spaced}
use Rattle.printing.proofs.FieldsLaws.{room-first, room-rest, room_as, wrote_as}
use Rattle.printing.proofs.ActionLaws.{kind-parts}
use Rattle.printing.proofs.put_kind_line.Goals as goal

pub put_word-after_word-requires : goal.put_word-after_word-requires
put_word-after_word-requires c =
    let a = c.args in
    let w = words_of (kind_number a.k) a.r a.a a.b in
    room_as (sym c.kind_word.ensures) (room-first (spaced (kind_fields w) ++ (10 ∷ [])) (room_as (kind-parts w) c.requires))

pub put_args-after_args-requires : goal.put_args-after_args-requires
put_args-after_args-requires c =
    let a = c.args in
    let w = words_of (kind_number a.k) a.r a.a a.b in
    let word = wrote_as c.kind_word.ensures c.put_word-after_word.ensures in
    room-first (10 ∷ []) (room-rest word (room_as (kind-parts w) c.requires))

pub put_word-requires : goal.put_word-requires
put_word-requires c =
    let a = c.args in
    let w = words_of (kind_number a.k) a.r a.a a.b in
    let word = wrote_as c.kind_word.ensures c.put_word-after_word.ensures in
    room-rest c.put_args-after_args.ensures (room-rest word (room_as (kind-parts w) c.requires))

pub returns : goal.returns
returns c =
    let a = c.args in
    let w = words_of (kind_number a.k) a.r a.a a.b in
    let word = wrote_as c.kind_word.ensures c.put_word-after_word.ensures in
    wrote_as (sym (kind-parts w)) (then word (then {xs = spaced (kind_fields w)} c.put_args-after_args.ensures c.put_word.ensures))

pub shape_of-out : goal.shape_of-out
shape_of-out c = wrote-length (returns c)
