-- Each turn adds a recorder's votes, and the last walk is the margin. Assumes nothing.
use Prim.Native.Nat.{ℕ, ◌+◌, ◌-◌, ◌*◌, ◌≤◌}
use native.Mathlib.Omega.{arith}
use mathlib.Core.Path.{◌≡◌, sym, ap, ap₂, subst, ◌∙◌}
use lib.IntN.{ℤ}
use mir.Facts.{to_z-of_z}
use Rattle.base.proofs.Integers.{read-minus, read_fits}
use Rattle.quorum.specs.Sets.{in_mask}
use Rattle.quorum.specs.Votes.{row_of, share, walk, max_vote}
use Rattle.quorum.proofs.VoteLaws.{one-walk, walk_turn, small-share, share-most}
use Rattle.quorum.proofs.margin.Goals as goal

pub loop-k-init : goal.loop-k-init
loop-k-init c = record { walked = one-walk _ _ _ 8 c.requires.0; some = omega arith; few = omega arith }

-- a recorder adds at most 1,000 to the hall's votes, and to the set's no more than that
few : (c : goal.After-share-s) → (c.share-s.result ≤ c.vote-v.result) × (c.vote-v.result ≤ max_vote)
few c = (
  subst (λ v. v ≤ c.vote-v.result) (sym c.share-s.ensures) (share-most _ _),
  subst (λ v. v ≤ max_vote) (sym c.vote-v.ensures) (small-share _ (c.requires.1 _) _),
)

pub overflow_add-of_set : goal.overflow_add-of_set
overflow_add-of_set c = omega (arith, few c)

pub overflow_add-of_hall : goal.overflow_add-of_hall
overflow_add-of_hall c = omega (arith, few c)

pub loop-k-preserved : goal.loop-k-preserved
loop-k-preserved c =
    let a = c.args in
    let l = c.loop-k in
    let turn : ℕ → ℕ → ℤ = λ x y. walk (row_of a.row.now) a.n (in_mask a.set) (l.k - 1) (l.of_set + x) (l.of_hall + y) in
    record {
      walked =
          ap₂ turn (c.share-s.ensures ∙ ap₂ share c.in_mask.ensures c.vote-v.ensures) c.vote-v.ensures
          ∙ sym (walk_turn (row_of a.row.now) a.n (in_mask a.set) l.k l.of_set l.of_hall (omega arith))
          ∙ l.invariant.walked;
      some = omega (arith, few c);
      few = omega (arith, few c);
    }

pub returns : goal.returns
unfolding walk
returns c =
    let a = c.args in
    let l = c.loop-k in
    let e : 0 ≡ l.k = omega arith in
    to_z-of_z (read_fits (2 * l.of_set) l.of_hall (omega arith) (omega arith))
    ∙ read-minus (2 * l.of_set) l.of_hall (omega arith) (omega arith)
    ∙ ap (λ (k : ℕ). walk (row_of a.row.now) a.n (in_mask a.set) k l.of_set l.of_hall) e
    ∙ l.invariant.walked
