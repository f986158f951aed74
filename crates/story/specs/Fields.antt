-- A line of text: its fields and its length.
-- Assumes nothing.
use Rattle.std.specs.Prelude.{ℕ, suc, Bool, true, false, ◌||◌, List, [], ◌∷◌, eqb, get_or}

-- a space, a tab or a carriage return
unfoldable pub is_blank : ℕ → Bool
is_blank b = eqb b 32 || (eqb b 9 || eqb b 13)

-- byte 10 ends a line, and `#` begins a remark
unfoldable pub is_end : ℕ → Bool
is_end b = eqb b 10 || eqb b 35

-- either ends a field
unfoldable pub is_break : ℕ → Bool
is_break b = is_blank b || is_end b

-- does no field go on here?
unfoldable pub breaks : List ℕ → Bool
breaks [] = true
breaks (b ∷ bs) = is_break b

-- one byte more at the front of the first field
unfoldable pub onto : ℕ → List (List ℕ) → List (List ℕ)
onto b [] = (b ∷ []) ∷ []
onto b (f ∷ fs) = (b ∷ f) ∷ fs

-- the fields of the first line of a text: what stands between blanks, up to the line's end or a remark
unfoldable pub fields_in : List ℕ → List (List ℕ)
fields_in [] = []
fields_in (b ∷ bs) =
    elim (is_end b) [
      | true ↦ []
      | false ↦
          elim (is_blank b) [
            | true ↦ fields_in bs
            | false ↦ elim (breaks bs) [ true ↦ (b ∷ []) ∷ fields_in bs | false ↦ onto b (fields_in bs) ]
          ]
    ]

-- the first field, empty if there is none
unfoldable pub first_field : List (List ℕ) → List ℕ
first_field fs = get_or fs 0 []

-- how many bytes the first line has, its byte 10 among them
unfoldable pub line_length : List ℕ → ℕ
line_length [] = 0
line_length (b ∷ bs) = elim (eqb b 10) [ true ↦ 1 | false ↦ suc (line_length bs) ]
