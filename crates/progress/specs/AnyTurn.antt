-- A turn of a settle that does not ask whether a call is "only in that view": on a hall in range it finds the same
-- (proofs/AllEntered), and the code makes it so.
-- Assumes nothing.
use Rattle.std.specs.Prelude.{List, [], ◌∷◌}
use Rattle.model.specs.Hall.{Hall}
use Rattle.model.specs.Answers.{plain}
use Rattle.model.specs.Refusals.{Rules}
use Rattle.model.specs.Call.{Words, step}
use Rattle.model.specs.Settle.{Turn, none, tried}

unfoldable pub any_turn : Rules → Hall → List Words → Turn
any_turn rules h [] = none
any_turn rules h (w ∷ ws) = tried (plain (step rules h w).answer).number w (any_turn rules h ws)
