-- The words of the text form.
-- Assumes nothing.
use Rattle.std.specs.Prelude.{ℕ, ◌+◌, true, false, List, [], ◌∷◌, get_or}
use Rattle.base.specs.Lists.{rest}
use Rattle.codec.specs.Bytes.{same_bytes}
use Rattle.model.specs.Listing.{hall-word, summary-word}

-- ## The kinds, 1 to 11 in turn

unfoldable pub submit-word : List ℕ
submit-word = 115 ∷ 117 ∷ 98 ∷ 109 ∷ 105 ∷ 116 ∷ []

unfoldable pub label-word : List ℕ
label-word = 108 ∷ 97 ∷ 98 ∷ 101 ∷ 108 ∷ []

unfoldable pub send-word : List ℕ
send-word = 115 ∷ 101 ∷ 110 ∷ 100 ∷ []

unfoldable pub form-word : List ℕ
form-word = 102 ∷ 111 ∷ 114 ∷ 109 ∷ []

unfoldable pub enter-word : List ℕ
enter-word = 101 ∷ 110 ∷ 116 ∷ 101 ∷ 114 ∷ []

unfoldable pub place-word : List ℕ
place-word = 112 ∷ 108 ∷ 97 ∷ 99 ∷ 101 ∷ []

unfoldable pub receive-word : List ℕ
receive-word = 114 ∷ 101 ∷ 99 ∷ 101 ∷ 105 ∷ 118 ∷ 101 ∷ []

unfoldable pub safe-word : List ℕ
safe-word = 115 ∷ 97 ∷ 102 ∷ 101 ∷ []

unfoldable pub confirm-word : List ℕ
confirm-word = 99 ∷ 111 ∷ 110 ∷ 102 ∷ 105 ∷ 114 ∷ 109 ∷ []

unfoldable pub deliver-word : List ℕ
deliver-word = 100 ∷ 101 ∷ 108 ∷ 105 ∷ 118 ∷ 101 ∷ 114 ∷ []

-- the word of each kind by its number; 0 is no kind
unfoldable pub kind_words : List (List ℕ)
kind_words =
    []
    ∷ submit-word
    ∷ label-word
    ∷ send-word
    ∷ summary-word
    ∷ form-word
    ∷ enter-word
    ∷ place-word
    ∷ receive-word
    ∷ safe-word
    ∷ confirm-word
    ∷ deliver-word
    ∷ []

unfoldable pub kind_word : ℕ → List ℕ
kind_word k = get_or kind_words k []

-- ## The other words

unfoldable pub raw_word : List ℕ
raw_word = 114 ∷ 97 ∷ 119 ∷ []

unfoldable pub founders-word : List ℕ
founders-word = 102 ∷ 111 ∷ 117 ∷ 110 ∷ 100 ∷ 101 ∷ 114 ∷ 115 ∷ []

unfoldable pub whole_word : List ℕ
whole_word = 119 ∷ 104 ∷ 111 ∷ 108 ∷ 101 ∷ []

unfoldable pub votes-word : List ℕ
votes-word = 118 ∷ 111 ∷ 116 ∷ 101 ∷ 115 ∷ []

-- ## Numbers of the words that a line begins with: a kind's own number, and two more

abbrev pub raw_number : ℕ
raw_number = 254

abbrev pub hall_number : ℕ
hall_number = 255

-- the number of the first of the words that f is, counted from k on; else d
unfoldable pub search : List ℕ → List (List ℕ) → ℕ → ℕ → ℕ
search f [] k d = d
search f (w ∷ ws) k d = elim (same_bytes w f) [ true ↦ k | false ↦ search f ws (k + 1) d ]

-- the number of a word that a line begins with; 0 for any other
unfoldable pub word_number : List ℕ → ℕ
word_number f =
    search f (rest kind_words) 1
    (search f (raw_word ∷ hall-word ∷ []) raw_number 0)
