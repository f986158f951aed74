-- Byte lists: bounded lists of bytes in a range, as the code has them. Assumes nothing.
use Rattle.std.specs.Prelude.{ℕ, ◌+◌, ◌-◌, Bool, true, ◌&&◌, List, [], ◌∷◌, ◌++◌, length, get_or, take}
use Rattle.codec.specs.declared.ByteList.{ByteList}
use Rattle.codec.specs.Bytes.{zeros, part}
use Rattle.codec.specs.Number.{between}

-- how many bytes a `ByteList` has room for
abbrev pub list_capacity : ℕ
list_capacity = 72

-- the bytes that a `ByteList` holds
abbrev pub items : ByteList → List ℕ
items l = take l.len l.places

-- the byte list at offset o of b: a count, and that many bytes
abbrev pub list_at : List ℕ → ℕ → List ℕ
list_at b o = part (o + 1) (get_or b o 0) b

-- the bytes of a byte list with room for cap: the count, the bytes, zeros
abbrev pub list_bytes : ℕ → List ℕ → List ℕ
list_bytes cap xs = length xs ∷ (xs ++ zeros (cap - length xs))

-- is every byte in lo .. hi?
unfoldable pub all_in : ℕ → ℕ → List ℕ → Bool
all_in lo hi [] = true
all_in lo hi (x ∷ xs) = between lo hi x && all_in lo hi xs
