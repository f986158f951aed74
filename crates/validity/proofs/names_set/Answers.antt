-- What is gathered is 0 just where each entry has it. Assumes nothing.
use borrow.Author.Rules.{rules}
use Prim.Native.Nat.{ℕ, ◌+◌, ◌-◌}
use native.Mathlib.Omega.{arith}
use mathlib.Core.Path.{◌≡◌, sym, ap, ◌∙◌}
use mathlib.Core.Bool.{Bool, not, ◌&&◌, ◌||◌}
use lib.Bits.{bit_or}
use lib.Dec.{eqb}
use lib.ListN.{get_or}
use Rattle.std.specs.declared.ops.Range.{Range}
use Rattle.std.proofs.iter.Yields.{nat_range_steps, Range-gives}
use Rattle.base.specs.Lists.{bit}
use Rattle.base.specs.Numbers.{up_to}
use Rattle.base.proofs.NumbersLaws.{up_to-range}
use Rattle.model.specs.Hall.{max_entries}
use Rattle.codec.proofs.Gathering.{or-zero}
use Rattle.validity.specs.Marks.{set_ok}
use Rattle.validity.proofs.AllsLaws.{all_same}
use Rattle.validity.proofs.ChainLaws.{gathered, all-below}
use Rattle.validity.proofs.MarksLaws.{asked-zero, set_at}
use Rattle.validity.proofs.names_set.Goals as goal

pub returns : goal.returns
returns c =
    let b = c.args.b.now in
    let at = c.args.at in
    let u = c.args.unnamed.now in
    let flag : ℕ → Bool = λ j. eqb 1 (get_or b (at + j) 0) in
    let labelled : ℕ → Bool = λ j. eqb (get_or u (j + 1) 0) 0 in
    let t : ℕ → Bool = λ j. not (flag j) || labelled j in
    let s : Range ℕ = record { start = 0; end = max_entries } in
    gathered nat_range_steps (λ x. x) _ _ t s _ c.fold.result (Range-gives s)
    (λ a x z h k.
    let e : z ≡ bit_or a (bit (flag x && not (labelled x))) = search rules in
    (ap (λ n. eqb n 0) e ∙ or-zero a (bit (flag x && not (labelled x))) ∙ ap (λ (v : Bool). eqb a 0 && v) (asked-zero (flag x) (labelled x)), search rules))
    c.fold.ensures.ran
    ∙ all-below t max_entries
    ∙ all_same (λ d. t (d - 1)) (set_ok u b at) (up_to max_entries)
    (λ d k.
    let i = up_to-range max_entries d k in
    let e : d - 1 + 1 ≡ d = omega (arith, i.0) in
    sym (set_at u b at (d - 1) (omega (arith, i.0, i.1))) ∙ ap (set_ok u b at) e)
