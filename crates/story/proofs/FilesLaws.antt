-- The run of a run file can be told. Assumes nothing.
use Prim.Native.Nat.{ℕ, zero, suc, ◌-◌, ◌^◌, ◌≤◌, ◌<◌}
use native.Mathlib.Omega.{arith}
use mathlib.Core.Path.{◌≡◌, sym, ap, subst, ◌∙◌}
use mathlib.Core.Bool.{Bool}
use mathlib.Core.List.{List}
use lib.ListN.{length, drop}
use borrow.Author.Tests.{le-ltb}
use Rattle.base.specs.Chains.{refuse}
use Rattle.base.specs.Lists.{Each}
use Rattle.base.proofs.Bools.{by_cases}
use Rattle.base.proofs.ChainsLaws.{first_passes}
use Rattle.model.specs.Opening.{open_refusal}
use Rattle.model.specs.RunFile.{RunText, has_votes, opening_in, max_actions, opening_length, distance, word_at, block_at, blocks_at, words_at, votes_at, opening_at, trailer_of, run_part, read_text, Reading, read_file}
use Rattle.runfile.specs.InRange.{Bytes, Small}
use Rattle.runfile.proofs.Blocks.{bytes_drop, length-blocks_at}
use Rattle.runfile.proofs.Openings.{few, votes-with, votes-without}
use Rattle.runfile.proofs.Read.{Readable, readable, taken}
use Rattle.story.specs.Printing.{tell_refusal}
use Rattle.story.specs.Stories.{story_refusal, Tellable}

-- ## Words of bytes

word_in : (bs : List ℕ) → Bytes bs → word_at bs < 2 ^ 32
unfolding word_at
word_in bs b = omega (arith, b 0, b 1, b 2, b 3)

block_in : (bs : List ℕ) → Bytes bs → Small (block_at bs)
unfolding block_at
block_in bs b =
    record {
      k = word_in bs b;
      r = word_in (drop 4 bs) (bytes_drop 4 bs b);
      a = word_in (drop 8 bs) (bytes_drop 8 bs b);
      b = word_in (drop 12 bs) (bytes_drop 12 bs b);
    }

blocks-in : (c : ℕ) (bs : List ℕ) → Bytes bs → Each Small (blocks_at c bs)
unfolding blocks_at
blocks-in zero bs b = tt
blocks-in (suc c) bs b = (block_in bs b, blocks-in c (drop 16 bs) (bytes_drop 16 bs b))

-- ## The opening and the number of actions

votes-eight : (third : ℕ) (bs : List ℕ) → length (votes_at third bs) ≡ 8
unfolding words_at
votes-eight third bs = by_cases (has_votes third) (λ t. ap length (votes-with third bs t)) (λ t. ap length (votes-without third bs t))

-- a run with a right opening, a third word of 0 or 1, and no more actions than a file has, is not refused
not-refused : (x : RunText) → open_refusal (opening_in x.opening) ≡ 0 → x.opening.third ≤ 1
    → length x.actions ≤ max_actions x.opening.third → story_refusal x ≡ 0
unfolding story_refusal tell_refusal refuse
not-refused x right third many =
    first_passes (tell_refusal x.opening) _
    (first_passes (open_refusal (opening_in x.opening)) _ right ∙ ap (λ (t : Bool). refuse t 19) (le-ltb 1 x.opening.third third))
    ∙ ap (λ (t : Bool). refuse t 19) (le-ltb (max_actions x.opening.third) (length x.actions) many)

module _ (bs : List ℕ) (b : Bytes bs) (g : Readable bs) (right : open_refusal (opening_in (read_text bs).opening) ≡ 0) where
  text-tellable : Tellable (read_text bs)
  unfolding read_text opening_at run_part
  text-tellable =
      let part = run_part bs in
      let block = block_at part in
      let t = trailer_of bs in
      let after : List ℕ = drop (opening_length block.a) part in
      let back : distance block.a t.r ≤ 65536 = omega (arith, g.opening.back, g.trailer.inside, g.high) in
      let many : length (blocks_at t.r after) ≤ max_actions block.a = rw length-blocks_at (few block.a t.r back) in
      record {
        taken = not-refused (read_text bs) right g.opening.third many;
        eight = votes-eight block.a (drop 16 part);
        unvoted = votes-without block.a (drop 16 part);
        words = blocks-in t.r after (bytes_drop (opening_length block.a) part (bytes_drop (length bs - t.k) bs b));
      }

pub file-tellable : (bs : List ℕ) (x : RunText) → Bytes bs → read_file bs ≡ Reading.text x → Tellable x
file-tellable bs x h e =
    let k = taken bs x e in
    subst Tellable (sym k.same) (text-tellable bs h (readable bs k.sound) k.right)
