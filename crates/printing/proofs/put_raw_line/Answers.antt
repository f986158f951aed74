-- The word, the four words, and the end of the line. Assumes nothing.
use mathlib.Core.Path.{sym}
use mathlib.Core.List.{[], ◌∷◌, ◌++◌, map}
use Rattle.model.specs.Call.{words_of}
use Rattle.model.specs.Listing.{decimal}
use Rattle.text.proofs.TextLaws.{wrote-length, then}
use Rattle.story.specs.Keywords.{raw_word}
use Rattle.printing.specs.Lines.{spaced}
use Rattle.printing.proofs.FieldsLaws.{room-first, room-rest, room_as, wrote_as}
use Rattle.printing.proofs.ActionLaws.{raw-parts}
use Rattle.printing.proofs.put_raw_line.Goals as goal

pub put_word-after_word-requires : goal.put_word-after_word-requires
unfolding raw_word
put_word-after_word-requires c =
    let a = c.args in
    room-first (spaced (map decimal (a.k ∷ a.r ∷ a.a ∷ a.b ∷ [])) ++ (10 ∷ [])) (room_as (raw-parts (words_of a.k a.r a.a a.b)) c.requires)

pub put_numbers-after_words-requires : goal.put_numbers-after_words-requires
unfolding raw_word
put_numbers-after_words-requires c =
    let a = c.args in
    room-first (10 ∷ []) (room-rest c.put_word-after_word.ensures (room_as (raw-parts (words_of a.k a.r a.a a.b)) c.requires))

pub put_word-requires : goal.put_word-requires
unfolding raw_word
put_word-requires c =
    let a = c.args in
    room-rest c.put_numbers-after_words.ensures (room-rest c.put_word-after_word.ensures (room_as (raw-parts (words_of a.k a.r a.a a.b)) c.requires))

pub returns : goal.returns
unfolding raw_word
returns c =
    let a = c.args in
    wrote_as (sym (raw-parts (words_of a.k a.r a.a a.b))) (then c.put_word-after_word.ensures (then {xs = spaced (map decimal (a.k ∷ a.r ∷ a.a ∷ a.b ∷ []))} c.put_numbers-after_words.ensures c.put_word.ensures))

pub shape_of-out : goal.shape_of-out
shape_of-out c = wrote-length (returns c)
