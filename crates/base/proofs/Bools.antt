-- Laws of truth values.
-- Assumes nothing.
use mathlib.Core.Path.{◌≡◌, refl, sym, ◌∙◌}
use mathlib.Core.Bool.{Bool, true, false, true≢false, ◌&&◌, ◌||◌}
use mathlib.Core.Logic.{◌⊎◌, inl, inr}

pub by_cases : {X : Type 0} (t : Bool) → (t ≡ true → X) → (t ≡ false → X) → X
by_cases true f g = f refl
by_cases false f g = g refl

pub true-or-false : (b : Bool) → (b ≡ true) ⊎ (b ≡ false)
true-or-false true = inl refl
true-or-false false = inr refl

pub not-both : {b : Bool} → b ≡ true → b ≡ false → ⊥
not-both t f = true≢false (sym t ∙ f)

pub or_cases : (a b : Bool) → (a || b) ≡ true → (a ≡ true) ⊎ (b ≡ true)
or_cases true b t = inl refl
or_cases false b t = inr t

pub or_left : (a b : Bool) → a ≡ true → (a || b) ≡ true
or_left a b t = rw t

pub or_right : (a b : Bool) → b ≡ true → (a || b) ≡ true
or_right true b t = refl
or_right false b t = t

pub or-none : (a b : Bool) → (a || b) ≡ false → (a ≡ false) × (b ≡ false)
or-none true b t = absurd (true≢false t)
or-none false b t = (refl, t)

pub and_both : (a b : Bool) → (a && b) ≡ true → (a ≡ true) × (b ≡ true)
and_both true b t = (refl, t)
and_both false b t = absurd (true≢false (sym t))

pub and-true : (a b : Bool) → a ≡ true → b ≡ true → (a && b) ≡ true
and-true a b s t = rw (s, t)
