-- `opening::begin` meets its contract. Assumes nothing.
use native.Mathlib.Omega.{arith}
use Prim.Native.Nat.{ℕ}
use mathlib.Core.Path.{◌≡◌, refl, ap, ◌∙◌}
use mathlib.Core.List.{List}
use lib.Pow.{pow_mono}
use lib.ListN.{length}
use lib.Seq.{sets}
use Rattle.quorum.proofs.VoteLaws.{right-row}
use Rattle.model.specs.Hall.{max_recorders}
use Rattle.codec.specs.Number.{digits}
use Rattle.store.specs.Layout.{number_size, views_at, view_cells, view_sets, votes_at}
use Rattle.opening.specs.Opened.{vote_bytes}
use Rattle.opening.proofs.OpenedLaws.{begin-bytes}
use borrow.Author.Rules.{rules}
use Rattle.opening.proofs.begin.Goals as goal

pub overflow_cast-set : goal.overflow_cast-set
overflow_cast-set c = omega (arith, pow_mono c.requires.size.1)

pub returns : goal.returns
returns c =
    let a = c.args in
    let h = c.requires in
    let eight : length a.votes ≡ max_recorders = search rules in
    c.put_byte-3.ensures
    ∙ ap (λ (z : List ℕ). sets z views_at (digits 1 1))
    (c.put_byte-2.ensures
    ∙ ap (λ (z : List ℕ). sets z view_sets (digits 1 a.set))
    (c.put_u32.ensures
    ∙ ap (λ (z : List ℕ). sets z view_cells (digits number_size 1))
    (c.put_byte.ensures
    ∙ ap (λ (z : List ℕ). sets z 0 (digits 1 a.n))
    (c.put_votes.ensures ∙ ap (λ (z : List ℕ). sets z votes_at (vote_bytes a.votes)) c.clear.ensures))))
    ∙ begin-bytes a.n a.votes a.set h.size (right-row a.n a.votes h.votes) h.founders.0 h.founders.1 a.b.now votes_at refl eight h.long
