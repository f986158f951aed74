-- Each cell is tested, and then the other places. Assumes nothing.
use borrow.Author.Rules.{rules}
use Prim.Native.Nat.{ℕ, ◌+◌, ◌-◌, ◌*◌}
use mathlib.Core.Bool.{Bool, ◌&&◌}
use mathlib.Core.Path.{◌≡◌, refl, sym, ap, ◌∙◌}
use Rattle.std.specs.List.{list_all, range_with_len}
use Rattle.std.proofs.lemmas.Iterator.{YieldsList-from_range}
use Rattle.std.proofs.lemmas.Iterator.Search.{all_from_yields_List}
use Rattle.codec.specs.Bytes.{part, all_zero}
use Rattle.ranges.specs.Tests.{tested}
use Rattle.ranges.proofs.Loops.{cells-list}
use Rattle.ranges.proofs.Table.valid_cells.Goals as goal
use Rattle.ranges.proofs.Table.valid_cells.Goals.{then-all, else-all}

pub returns : goal.returns
unfolding tested
returns g c =
    let s = c.args.self in
    let b = c.args.b.now in
    let m = c.args.m in
    let end = s.at + s.places * s.size in
    λ test t.
    let P : ℕ → Bool = λ i. test (part (s.at + i * s.size) s.size b) in
    let each : c.all.result ≡ list_all P (range_with_len 0 m) =
    all_from_yields_List P _ _ c.all.result c.all.ensures.ran (YieldsList-from_range 0 m m refl (search rules)) (λ i r q k. (search rules, t i r (search rules))) in
    let both : Bool → Bool = λ u. u && all_zero (part (s.at + m * s.size) (end - (s.at + m * s.size)) b) in
    let law = cells-list (tested s.size test) s.at m b s.places end c.requires.within.0 refl in
    elim c.if-all.branch [
      | then-all w ↦ w.result-is ∙ w.is_zero.ensures ∙ ap both (sym w.if-all.true ∙ each) ∙ law
      | else-all w ↦ w.result-is ∙ w.if-all.false ∙ ap both (sym w.if-all.false ∙ each) ∙ law
    ]
