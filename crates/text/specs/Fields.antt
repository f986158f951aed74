-- Fields "parted by one space, each line closed by byte 10", their lengths, and how long they can be.
-- Assumes nothing.
use Rattle.std.specs.Prelude.{ℕ, List, [], ◌∷◌}
use Rattle.model.specs.Listing.{decimal, fields_after, label_text}

-- a number after the first field; the last number of a line, and the last two; a label after the first field
abbrev pub number_text : ℕ → List ℕ
number_text x = 32 ∷ decimal x

abbrev pub last_text : ℕ → List ℕ
last_text x = fields_after (decimal x ∷ [])

abbrev pub last_two_text : ℕ → ℕ → List ℕ
last_two_text x y = fields_after (decimal x ∷ decimal y ∷ [])

abbrev pub label_field : ℕ → ℕ → ℕ → List ℕ
label_field view seq sender = 32 ∷ label_text view seq sender

abbrev pub max_decimal : ℕ
max_decimal = 10

abbrev pub max_last : ℕ
max_last = 12

abbrev pub max_last_two : ℕ
max_last_two = 23

abbrev pub max_label : ℕ
max_label = 33
