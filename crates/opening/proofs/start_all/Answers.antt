-- `opening::start_all` meets its contract. The loop's invariant: recorders 1 to k have started.
-- The measure is how many are left. Assumes nothing.
use Prim.Native.Nat.{ℕ, ◌+◌, ◌*◌}
use native.Mathlib.Omega.{arith}
use mathlib.Core.Path.{◌≡◌, refl, ap, ◌∙◌}
use mathlib.Core.List.{List, ◌++◌}
use lib.ListN.{length}
use lib.Seq.{sets}
use Rattle.store.specs.Layout.{recorders_at, recorder_size}
use Rattle.store.specs.CellForms.{recorder_form}
use Rattle.store.specs.StoredForm.{stored}
use Rattle.quorum.proofs.VoteLaws.{right-row}
use Rattle.opening.specs.Opened.{begun, start_of}
use Rattle.opening.proofs.OpenedLaws.{start-bytes}
use Rattle.opening.proofs.start_all.Goals as goal

pub loop-k-init : goal.loop-k-init
loop-k-init c = (refl, λ row rest t e. e)

pub loop-k-preserved : goal.loop-k-preserved
loop-k-preserved c =
    let n = c.args.n in
    let set = c.args.set in
    let k = c.loop-k.k in
    let i = c.loop-k.invariant in
    let l : length c.start.new.b ≡ length c.args.b.now = c.start.auto.b ∙ i.0 in (
      l,
      λ row rest t e.
          c.start.ensures n c.loop-k-test.true
          ∙ ap (λ (z : List ℕ). sets z (recorders_at + k * recorder_size) (recorder_form.encode (start_of n set (k + 1)))) (i.1 row rest t e)
          ∙ start-bytes n row set t.size (right-row n row t.votes) t.founders.0 t.founders.1 k c.loop-k-test.true rest,
    )

pub shape_of-b : goal.shape_of-b
shape_of-b c = c.loop-k.invariant.0

pub returns : goal.returns
returns c =
    let e : c.loop-k.k ≡ c.args.n = omega arith in
    λ row rest t f. c.loop-k.invariant.1 row rest t f ∙ ap (λ (j : ℕ). stored (begun c.args.n row c.args.set j) ++ rest) e
