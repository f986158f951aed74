-- The word of a signed number is its bits. Assumes nothing.
use mathlib.Core.Path.{◌≡◌, refl}
use lib.IntN.{ℤ, pos, negsuc}
use mir.Syntax.{w32}
use Rattle.std.specs.Int.{cast_unsigned}
use Rattle.model.specs.Answers.{word}

pub bits-word : (m : ℤ) → cast_unsigned w32 m ≡ word m
unfolding word
bits-word (pos n) = refl
bits-word (negsuc n) = refl
