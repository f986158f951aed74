-- The recorders 1 to 8, one after another. Assumes nothing.
use Rattle.std.proofs.Common.{refl, rules}
use Rattle.base.specs.Numbers.{up_to}
use Rattle.base.proofs.Arrays.{array-map}
use Rattle.quorum.specs.Votes.{built_in, counted, built_in_row}
use Rattle.quorum.proofs.built_in_row.Goals as goal

pub returns : goal.returns
unfolding built_in_row up_to
returns c = array-map _ _ (counted built_in c.args.n) (λ x y q k. (search rules, search rules)) _ c.map.result 8 refl c.map.ensures.items
