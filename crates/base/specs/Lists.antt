-- Lists: what they have, which elements pass a test, the element of a number, rising lists, and one list that begins another.
-- Assumes nothing.
use Rattle.std.specs.Prelude.{ℕ, ◌+◌, ◌-◌, max, ◌≡◌, Bool, true, false, ◌&&◌, ◌||◌, List, [], ◌∷◌, ◌++◌, eqb, ltb, get_or}

-- is x listed in xs?
unfoldable pub has : List ℕ → ℕ → Bool
has [] x = false
has (y ∷ ys) x = elim (eqb x y) [ true ↦ true | false ↦ has ys x ]

-- the elements of xs for which p holds, in the same order
unfoldable pub filter : (ℕ → Bool) → List ℕ → List ℕ
filter p [] = []
filter p (x ∷ xs) = elim (p x) [ true ↦ x ∷ filter p xs | false ↦ filter p xs ]

-- each element of xs has P
abbrev pub Each : {A : Type 0} → (A → Type 0) → List A → Type 0
Each P [] = Unit {0}
Each P (x ∷ xs) = P x × Each P xs

-- does p hold for each element of xs?
unfoldable pub all : (ℕ → Bool) → List ℕ → Bool
all p [] = true
all p (x ∷ xs) = p x && all p xs

-- does p hold for some element of xs?
unfoldable pub any : (ℕ → Bool) → List ℕ → Bool
any p [] = false
any p (x ∷ xs) = p x || any p xs

-- how many elements of xs have p
unfoldable pub count_of : (ℕ → Bool) → List ℕ → ℕ
count_of p [] = 0
count_of p (x ∷ xs) = elim (p x) [ true ↦ 1 | false ↦ 0 ] + count_of p xs

-- the greatest f x for x in xs, 0 if there is none
unfoldable pub greatest : (ℕ → ℕ) → List ℕ → ℕ
greatest f [] = 0
greatest f (x ∷ xs) = max (f x) (greatest f xs)

-- element number k, counted from 1; d past the end
unfoldable pub nth : {A : Type 0} → List A → ℕ → A → A
nth xs k d = get_or xs (k - 1) d

-- the list without its first element
unfoldable pub rest : {A : Type 0} → List A → List A
rest [] = []
rest (x ∷ xs) = xs

-- is the list empty?
unfoldable pub is_empty : {A : Type 0} → List A → Bool
is_empty [] = true
is_empty (x ∷ xs) = false

-- does xs rise strictly, with every element above a?
unfoldable pub rising : ℕ → List ℕ → Bool
rising a [] = true
rising a (x ∷ xs) = ltb a x && rising x xs

-- 1 for true, 0 for false
abbrev pub bit : Bool → ℕ
bit true = 1
bit false = 0

-- how often x is listed in xs
unfoldable pub count : List ℕ → ℕ → ℕ
count [] x = 0
count (y ∷ ys) x = bit (eqb x y) + count ys x

-- "One list begins another if it equals the other's first places": the other is that list and something more
pub record Begins {A : Type 0} (a b : List A) : Type 0 where
  pub more : List A
  pub joins : b ≡ a ++ more
