-- "A reader over the lent file gives one action per call until the trailer." Assumes nothing.
use Prim.Native.Nat.{ℕ, zero, suc, ◌+◌, ◌-◌, ◌*◌}
use native.Mathlib.Omega.{arith}
use native.Mathlib.Nat.{zero-add, suc-add}
use mathlib.Core.Path.{◌≡◌, refl, sym, ap, ap₂, ◌∙◌}
use mathlib.Core.List.{List, [], ◌∷◌, ◌++◌, map}
use mathlib.Core.Option.{Option, none, some}
use lib.ListN.{length, drop, replicate}
use lib.Seq.{drop-drop}
use Rattle.model.specs.Call.{Words}
use Rattle.model.specs.RunFile.{FileOpening, opening_length, distance, block_at, blocks_at, opening_at, RunText, trailer_of, run_part, read_text, Reading, read_file, ReadAnswer, read_answer, NextAnswer, next_at}
use Rattle.runfile.specs.Answers.{offset_after}
use Rattle.runfile.proofs.Read.{readable, taken, opened-run, next-end, next-act}

-- what a call gives: an action, or none at the end
abbrev pub got : NextAnswer → Option Words
got (NextAnswer.action w next) = some w
got NextAnswer.end = none

-- what n calls give, one after the other: each leaves the reader at the offset after its answer
unfoldable pub calls : ℕ → List ℕ → ℕ → List (Option Words)
calls zero bs at = []
calls (suc n) bs at = got (next_at bs at) ∷ calls n bs (offset_after (next_at bs at) at)

-- where only the trailer is left, every call gives the end
at-end : (n : ℕ) (bs : List ℕ) (at : ℕ) → at + 16 ≡ length bs → calls n bs at ≡ replicate n none
unfolding calls offset_after
at-end zero bs at h = refl
at-end (suc n) bs at h =
    ap (λ (t : NextAnswer). got t ∷ calls n bs (offset_after t at)) (next-end bs at (omega arith))
    ∙ ap (λ (z : List (Option Words)). none ∷ z) (at-end n bs at h)

-- c actions are left: they are given, and then the end n times
all-given : (c n : ℕ) (bs : List ℕ) (at : ℕ) → at + 16 * c + 16 ≡ length bs
    → calls (c + n) bs at ≡ map some (blocks_at c (drop at bs)) ++ replicate n none
unfolding calls blocks_at offset_after
all-given zero n bs at h = ap (λ (m : ℕ). calls m bs at) (zero-add n) ∙ at-end n bs at (omega arith)
all-given (suc c) n bs at h =
    ap (λ (m : ℕ). calls m bs at) (suc-add c n)
    ∙ ap (λ (t : NextAnswer). got t ∷ calls (c + n) bs (offset_after t at)) (next-act bs at (omega arith))
    ∙ ap (λ (z : List (Option Words)). some (block_at (drop at bs)) ∷ z)
    (all-given c n bs (at + 16) (omega arith)
    ∙ ap (λ (z : List ℕ). map some (blocks_at c z) ++ replicate n none) (sym (drop-drop 16 at bs)))

-- From the opening that reading gives: the calls from its start give the file's actions, and then the end at every
-- further call.
pub reads_all : (bs : List ℕ) (x : RunText) (o : FileOpening) (start count : ℕ) → read_file bs ≡ Reading.text x
    → read_answer bs (read_file bs) ≡ ReadAnswer.opened o start count
    → (n : ℕ) → calls (count + n) bs start ≡ map some x.actions ++ replicate n none
unfolding read_text run_part opening_at distance
reads_all bs x o start count e f n =
    let t = trailer_of bs in
    let k = taken bs x e in
    let g = readable bs k.sound in
    let from : ℕ = length bs - t.k in
    let s : ℕ = opening_length (block_at (run_part bs)).a in
    let z : ReadAnswer.opened o start count ≡ ReadAnswer.opened (opening_at (run_part bs)) (from + s) t.r =
    sym f ∙ ap (read_answer bs) (e ∙ ap Reading.text k.same) ∙ opened-run bs k.sound in
    let many : count ≡ t.r = cc in
    let first : start ≡ from + s = cc in
    ap₂ (λ (c s : ℕ). calls (c + n) bs s) many first
    ∙ all-given t.r n bs (from + s) (omega (arith, g.opening.back, g.trailer.inside))
    ∙ ap (λ (z : List ℕ). map some (blocks_at t.r z) ++ replicate n none) (sym (drop-drop s from bs))
    ∙ ap (λ (y : RunText). map some y.actions ++ replicate n none) (sym k.same)
