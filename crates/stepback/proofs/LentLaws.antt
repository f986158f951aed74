-- What a held call with its answer in a lent slice returns and leaves, case by case. Assumes nothing.
use Prim.Native.Nat.{ℕ, ◌≤◌, ◌<◌}
use mathlib.Core.Path.{◌≡◌, refl, sym, ap, ◌∙◌}
use mathlib.Core.Bool.{Bool, true, false}
use mathlib.Core.List.{List}
use lib.Dec.{eqb}
use lib.ListN.{length}
use Rattle.base.specs.Chains.{◌⨾◌}
use Rattle.model.specs.Answers.{Plain}
use Rattle.calls.specs.Lent.{answer_length, with_answer, lent_number, Lent, lent_call, Leaves}
use Rattle.calls.proofs.Refused.{lent-refused, lent-tried, lent-done}
use Rattle.stepback.specs.Held.{Bench}
use Rattle.stepback.specs.Steps.{Left}
use Rattle.stepback.specs.Lent.{HeldLent, held_call, LeavesHeld}

module _ (p : Plain) (x next : Bench) (out : List ℕ) where
  -- it is one call on each of the two slices
  one_each : ((held_call p x next out).number ≡ (lent_call p x.hall next.hall out).number)
      × ((held_call p x next out).left.hall ≡ (lent_call p x.hall next.hall out).bytes)
      × ((held_call p x next out).left.undo ≡ (lent_call p x.undo next.undo out).bytes)
      × ((held_call p x next out).answer ≡ (lent_call p x.hall next.hall out).answer)
  unfolding held_call lent_call
  one_each = go (eqb (lent_number p.number out) 0)
    where
      held : Bool → HeldLent
      held t =
          elim t [
            | true ↦ record { number = 0; left = next; answer = with_answer out p.values }
            | false ↦ record { number = lent_number p.number out; left = x; answer = out }
          ]

      single : List ℕ → List ℕ → Bool → Lent
      single b c t =
          elim t [
            | true ↦ record { number = 0; bytes = c; answer = with_answer out p.values }
            | false ↦ record { number = lent_number p.number out; bytes = b; answer = out }
          ]

      go : (t : Bool)
          → ((held t).number ≡ (single x.hall next.hall t).number)
          × ((held t).left.hall ≡ (single x.hall next.hall t).bytes)
          × ((held t).left.undo ≡ (single x.undo next.undo t).bytes)
          × ((held t).answer ≡ (single x.hall next.hall t).answer)
      go true = (refl, refl, refl, refl)
      go false = (refl, refl, refl, refl)

  both : {n : ℕ} {b u y : List ℕ} → Leaves (lent_call p x.hall next.hall out) n b y → Leaves (lent_call p x.undo next.undo out) n u y
      → LeavesHeld (held_call p x next out) n b u y
  both k l =
      record {
        number = k.number ∙ sym one_each.0;
        hall = k.bytes ∙ sym one_each.1;
        undo = l.bytes ∙ sym one_each.2;
        answer = k.answer ∙ sym one_each.3;
      }

  -- the number, tried without a room for the answer
  pub held-tried : (n : ℕ) → n ≡ p.number ⨾ 18 → length out < answer_length → LeavesHeld (held_call p x next out) n x.hall x.undo out
  held-tried n e l = both (lent-tried p x.hall next.hall out n e l) (lent-tried p x.undo next.undo out n e l)

  -- refused, its own slices left as they were
  pub held-refused : (n : ℕ) → n ≡ p.number → (n ≡ 0 → ⊥) → next ≡ x → {b u : List ℕ} → Left next b u → LeavesHeld (held_call p x next out) n b u out
  held-refused n e ne keeps left =
      let l = both (lent-refused p x.hall next.hall out n e ne) (lent-refused p x.undo next.undo out n e ne) in
      record {
        number = l.number;
        hall = left.hall ∙ ap (λ (y : Bench). y.hall) keeps ∙ l.hall;
        undo = left.undo ∙ ap (λ (y : Bench). y.undo) keeps ∙ l.undo;
        answer = l.answer;
      }

  -- taken
  pub held-done : p.number ≡ 0 → answer_length ≤ length out → {b u y : List ℕ} → Left next b u → y ≡ with_answer out p.values
      → LeavesHeld (held_call p x next out) 0 b u y
  held-done e l left w =
      let d = both (lent-done p x.hall next.hall out e l) (lent-done p x.undo next.undo out e l) in
      record { number = d.number; hall = left.hall ∙ d.hall; undo = left.undo ∙ d.undo; answer = w ∙ d.answer }
