-- An empty list has no first byte; else it stands in the first place. Assumes nothing.
use borrow.Author.Rules.{rules}
use native.Mathlib.Omega.{arith}
use mathlib.Core.Path.{◌≡◌, sym}
use lib.ListN.{length}
use Rattle.codec.specs.ByteList.{list_capacity}
use Rattle.codec.proofs.EndsLaws.{first-none, first_some}
use Rattle.codec.proofs.first_of.Goals as goal

pub returns-then-l-eq0 : goal.returns-then-l-eq0
returns-then-l-eq0 c =
    let l = c.args.l in
    let full : length l.places ≡ list_capacity = search rules in
    sym (first-none l full (omega arith))

pub returns-else-l-eq0 : goal.returns-else-l-eq0
returns-else-l-eq0 c =
    let l = c.args.l in
    let full : length l.places ≡ list_capacity = search rules in
    sym (first_some l full (omega arith))
