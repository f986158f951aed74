-- The bytes after the first. Assumes nothing.
use Rattle.std.proofs.Common.{rules, ℕ, List, ◌+◌, ◌-◌, ◌++◌, ◌≡◌, ◌∙◌, arith, refl, sym, ap, take, drop, length, length-take-le}
use Rattle.std.proofs.Math.Seq.{take-append_seam}
use Rattle.std.proofs.lemmas.List.{drop-take}
use Rattle.codec.specs.ByteList.{list_capacity}
use Rattle.codec.proofs.pop.Goals as goal

pub returns : goal.returns
returns c =
    let l = c.args.l in
    let xs = c.copy_from_slice.new.self in
    let n : ℕ = l.len - 1 in
    let e : l.len ≡ 1 + n = omega arith in
    let rest : xs ≡ drop 1 (take l.len l.places) =
    c.copy_from_slice.ensures.after ∙ sym (ap (λ (k : ℕ). drop 1 (take k l.places)) e ∙ drop-take 1 n l.places) in
    let full : length l.places ≡ list_capacity = search rules in
    let m : n ≡ length xs = sym (c.copy_from_slice.ensures.len ∙ length-take-le n l.places (omega (arith, full))) in
    (refl, ap (λ (k : ℕ). take k (xs ++ drop n l.places)) m ∙ take-append_seam xs (drop n l.places) ∙ rest)
