-- The invariant: the votes passed are written. Assumes nothing.
use borrow.Author.Rules.{rules}
use native.Mathlib.Omega.{arith}
use mathlib.Core.Path.{◌≡◌, ap, ◌∙◌}
use lib.ListN.{length, take}
use lib.Seq.{sets, length-sets, take_all}
use Rattle.store.specs.Layout.{votes_at}
use Rattle.opening.specs.Opened.{vote_bytes}
use Rattle.opening.proofs.OpenedLaws.{vote-step}
use Rattle.opening.proofs.put_votes.Goals as goal

pub loop-i-init : goal.loop-i-init
unfolding vote_bytes
loop-i-init c = search rules

pub put_u32-requires : goal.put_u32-requires
put_u32-requires c = omega (arith, simp length-sets at (ap length c.loop-i.invariant))

pub loop-i-preserved : goal.loop-i-preserved
loop-i-preserved c =
    let l = c.loop-i in
    c.put_u32.ensures ∙ vote-step c.args.b.now votes_at c.args.votes l.i l.b (search rules) l.invariant

pub shape_of-b : goal.shape_of-b
shape_of-b c = ap length c.loop-i.invariant ∙ simp length-sets

pub returns : goal.returns
returns c =
    let a = c.args in
    let all : take c.loop-i.i a.votes ≡ a.votes = take_all c.loop-i.i a.votes (search rules) in
    c.loop-i.invariant ∙ ap (λ z. sets a.b.now votes_at (vote_bytes z)) all
