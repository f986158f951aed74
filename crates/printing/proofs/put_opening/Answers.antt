-- The word, the number, the founders, the votes, and the end of the line. Assumes nothing.
use mathlib.Core.Path.{sym}
use mathlib.Core.List.{[], ◌∷◌, ◌++◌}
use Rattle.model.specs.Listing.{hall-word}
use Rattle.runfile.specs.Answers.{file_opening}
use Rattle.text.specs.Fields.{number_text}
use Rattle.text.proofs.TextLaws.{wrote-length, then}
use Rattle.printing.proofs.FieldsLaws.{room-first, room-rest, room_as, wrote_as}
use Rattle.printing.proofs.OpeningLaws.{founders, votes, opening-parts}
use Rattle.printing.proofs.put_opening.Goals as goal

pub put_word-a-requires : goal.put_word-a-requires
unfolding hall-word
put_word-a-requires c =
    let o = file_opening c.args.o in
    room-first (number_text o.size ++ (founders o ++ (votes o ++ (10 ∷ [])))) (room_as (opening-parts o) c.requires.room)

pub put_number-b-requires : goal.put_number-b-requires
unfolding hall-word
put_number-b-requires c =
    let o = file_opening c.args.o in
    room-first (founders o ++ (votes o ++ (10 ∷ []))) (room-rest c.put_word-a.ensures (room_as (opening-parts o) c.requires.room))

pub put_founders-c-requires : goal.put_founders-c-requires
unfolding hall-word
put_founders-c-requires c =
    let o = file_opening c.args.o in
    record {
      n_bound = c.requires.size_bound;
      room = room-first (votes o ++ (10 ∷ [])) (room-rest c.put_number-b.ensures (room-rest c.put_word-a.ensures (room_as (opening-parts o) c.requires.room)));
    }

pub put_votes-d-requires : goal.put_votes-d-requires
unfolding hall-word
put_votes-d-requires c =
    let o = file_opening c.args.o in
    room-first (10 ∷ []) (room-rest c.put_founders-c.ensures (room-rest c.put_number-b.ensures (room-rest c.put_word-a.ensures (room_as (opening-parts o) c.requires.room))))

pub put_word-requires : goal.put_word-requires
unfolding hall-word
put_word-requires c =
    let o = file_opening c.args.o in
    room-rest c.put_votes-d.ensures (room-rest c.put_founders-c.ensures (room-rest c.put_number-b.ensures (room-rest c.put_word-a.ensures (room_as (opening-parts o) c.requires.room))))

pub returns : goal.returns
unfolding hall-word
returns c =
    let o = file_opening c.args.o in
    wrote_as (sym (opening-parts o)) (then c.put_word-a.ensures (then c.put_number-b.ensures (then c.put_founders-c.ensures (then c.put_votes-d.ensures c.put_word.ensures))))

pub shape_of-out : goal.shape_of-out
shape_of-out c = wrote-length (returns c)
