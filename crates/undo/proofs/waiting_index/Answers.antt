-- An entry that waits first is one of 1 to 64. Assumes nothing.
use borrow.Author.Rules.{rules}
use mathlib.Core.Path.{sym, ap, ◌∙◌}
use Rattle.codec.specs.Ends.{found_of}
use Rattle.undo.proofs.FindingParts.{waits-low, by-found}
use Rattle.undo.proofs.waiting_index.Goals as goal

pub map_or-requires : goal.map_or-requires
map_or-requires c =
    let a = c.args in
    let f = c.first_waiting.ensures in
    λ e is q k. waits-low a.b.now a.r e (sym f ∙ ap found_of is)

pub returns : goal.returns
returns c =
    let a = c.args in
    let x = by-found a.b.now a.r c.first_waiting.result c.first_waiting.ensures c.requires c.map_or.ensures (λ e q. search rules) in
    record { value = x.0; small = x.1 }
