-- Refused, or the line has room. Assumes nothing.
use Rattle.std.proofs.Common.{◌≡◌, ◌<◌, ◌^◌, ℕ, sym, arith, rules}
use lib.ListN.{length, replicate, get_or}
use Rattle.runfile.specs.Answers.{file_opening}
use Rattle.text.specs.Text.{Room}
use Rattle.story.specs.Printing.{opening_text}
use Rattle.printing.proofs.FieldsLaws.{prints}
use Rattle.printing.proofs.OpeningLaws.{size_small, opening-short}
use Rattle.printing.proofs.print_opening.Goals as goal

-- the eight vote words are of 32 bits
room : (c : goal.After-bytes-1) → Room (replicate 160 0) 0 (opening_text (file_opening c.args.o))
room c =
    let words : (i : ℕ) → get_or c.args.o.words i 0 < 2 ^ 32 = λ i. search rules in
    let eight : length c.args.o.words ≡ 8 = search rules in
    record { fits = omega (arith, opening-short (file_opening c.args.o) (omega arith) words eight) }

pub put_opening-len-requires-clause-size_bound : goal.put_opening-len-requires-clause-size_bound
put_opening-len-requires-clause-size_bound c = size_small (file_opening c.args.o) (sym c.in_ok-tell_refusal.ensures)

pub put_opening-len-requires-clause-room : goal.put_opening-len-requires-clause-room
put_opening-len-requires-clause-room c = room c

pub returns : goal.returns
returns c = (c.in_ok-tell_refusal.ensures, prints c.put_opening-len.ensures (room c.before.before))
