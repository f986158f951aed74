-- Each message in turn. Assumes nothing.
use borrow.Author.Rules.{rules}
use Prim.Native.Nat.{ℕ, ◌+◌, ◌*◌}
use native.Mathlib.Omega.{arith}
use mathlib.Core.Path.{refl, sym, ◌∙◌}
use mathlib.Core.Bool.{Bool}
use lib.ListN.{get_or}
use Rattle.base.proofs.Iterators.{all-range}
use Rattle.store.specs.Layout.{queue_size, queues_at}
use Rattle.validity.specs.CrossParts.{queued_ok}
use Rattle.validity.proofs.RawCells.{queue-count}
use Rattle.validity.proofs.ChainLaws.{tells_rest}
use Rattle.validity.proofs.CrossPartsLaws.{queue_from, queue-all, queue-fail, queue-next, queue-done}
use Rattle.validity.proofs.names_queue.Goals as goal

pub returns : goal.returns
returns c =
    let a = c.args in
    let b = a.b.now in
    let u = a.unnamed.now in
    let h = c.requires in
    let o : ℕ = queues_at + a.i * queue_size + 1 in
    let n : ℕ = get_or b (queues_at + a.i * queue_size) 0 in
    let t : ℕ → Bool = λ j. queued_ok u b a.i (o + j * 2) in
    let most = queue-count b h.0.ranged.held a.i h.1 in
    tells_rest t (queue_from b h.0.ranged.held u h.0.labels a.i h.1 o n) n
    (λ j l. queue-next b h.0.ranged.held u h.0.labels a.i h.1 o n j l (omega (arith, most, h.0.ranged.fits)))
    (λ j l. queue-fail b h.0.ranged.held u h.0.labels a.i h.1 o n j l (omega (arith, most, h.0.ranged.fits)))
    (queue-done b h.0.ranged.held u h.0.labels a.i h.1 o n n (omega arith))
    _
    (all-range t (λ x v f k. search rules) 0 n _ _ refl c.queue_count.ensures.count c.all.ensures.runs)
    ∙ sym (queue-all b h.0.ranged.held u h.0.labels a.i h.1)
