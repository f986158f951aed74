-- 11 and 31 as the code tells them: the number of the refusal, 0 for none. Assumes nothing.
use Rattle.std.specs.Prelude.{ℕ, true, false, List}
use Rattle.model.specs.Kinds.{kind, no_kind, kind_of}
use Rattle.store.specs.StoredForm.{is_stored}

-- 11: "K is not 1 to 11"
unfoldable pub word_kind_number : ℕ → ℕ
word_kind_number k = elim (kind_of k) [ kind κ ↦ 0 | no_kind ↦ 11 ]

-- 31: "the bytes are no hall's stored form"
unfoldable pub bytes_number : List ℕ → ℕ
bytes_number b = elim (is_stored b) [ true ↦ 0 | false ↦ 31 ]
