-- A listing with invented end counts differs from `listing`. Assumes nothing.
use Prim.Native.Nat.{ℕ, ◌+◌, ◌-◌}
use native.Mathlib.Omega.{arith}
use native.Mathlib.Nat.{add-zero, zero-add}
use mathlib.Core.Path.{◌≡◌, refl, sym, ap, ap₂, subst, ◌∙◌}
use mathlib.Core.Bool.{Bool, true, false}
use mathlib.Core.List.{List, [], ◌∷◌, ◌++◌, append_assoc}
use lib.ListN.{length, get_or, drop, length-append}
use lib.Seq.{drop_at}
use Rattle.model.specs.Hall.{Hall}
use Rattle.model.specs.Answers.{accepted}
use Rattle.model.specs.Actions.{Outcome}
use Rattle.model.specs.Opening.{opened}
use Rattle.model.specs.Call.{Words, hl3, step}
use Rattle.model.specs.Run.{answers}
use Rattle.model.specs.RunFile.{opening_in, RunText, Reading, read_file, file_bytes}
use Rattle.model.specs.Listing.{line, hall-word, decimal, action_line, end_line, action_lines, run_lines, listing}
use Rattle.model.specs.Cards.{up_to_confirm, listing_run}
use Rattle.model.proofs.Computing.{computing}
use Rattle.model.specs.EndCounts.{accepted_count, refused_count, end_of, Closes, InventsEnd, invented_end}

closes-after : {text last : List ℕ} (before : List ℕ) → Closes text last → Closes (before ++ text) last
closes-after {text} {last} before c =
    record { before = before ++ c.before; joins = ap (λ z. before ++ z) c.joins ∙ sym (append_assoc before c.before last) }

-- the lines of actions close with the counts so far and those of the actions
abbrev LinesClose : Hall → List Words → Type 0
LinesClose h ws = (k y n : ℕ)
    → Closes (action_lines hl3 h k y n ws) (end_line (y + accepted_count (answers hl3 h ws)) (n + refused_count (answers hl3 h ws)))

lines-close : (h : Hall) (ws : List Words) → LinesClose h ws
unfolding action_lines answers accepted_count refused_count
lines-close h [] k y n = record { before = []; joins = rw (add-zero y, add-zero n) }
lines-close h (w ∷ ws) k y n = closes-after (action_line k w o.answer) (go (lines-close g ws) (accepted o.answer))
  where
    o : Outcome
    o = step hl3 h w

    g : Hall
    g = o.hall

    yes-count : ℕ
    yes-count = accepted_count (answers hl3 g ws)

    no-count : ℕ
    no-count = refused_count (answers hl3 g ws)

    go : LinesClose g ws → (t : Bool)
        → Closes (elim t [ true ↦ action_lines hl3 g (k + 1) (y + 1) n ws | false ↦ action_lines hl3 g (k + 1) y (n + 1) ws ])
        (end_line (y + (elim t [ true ↦ 1 | false ↦ 0 ] + yes-count)) (n + (elim t [ true ↦ 0 | false ↦ 1 ] + no-count)))
    go later true = subst (Closes _) (ap₂ end_line (omega arith) (omega arith)) (later (k + 1) (y + 1) n)
    go later false = subst (Closes _) (ap₂ end_line (omega arith) (omega arith)) (later (k + 1) y (n + 1))

listing-closes : (file : List ℕ) (x : RunText) → read_file file ≡ Reading.text x → Closes (listing hl3 file) (end_of x)
unfolding listing run_lines
listing-closes file x e =
    let lines = lines-close (opened (opening_in x.opening)) x.actions 1 0 0 in
    rw (e, listing) (closes-after (line hall-word (decimal x.opening.size ∷ [])) (simp zero-add at lines))

-- a listing that does not close so differs there
pub end-counts-differ : (f : List ℕ → List ℕ) (x : InventsEnd f) → f x.file ≡ listing hl3 x.file → ⊥
end-counts-differ f x e =
    x.other (subst (λ t. Closes t (end_of x.run)) (sym e) (listing-closes x.file x.run x.reads))

-- what a text closes with is what stands at its end
last-bytes : (text last : List ℕ) → Closes text last → drop (length text - length last) text ≡ last
last-bytes text last c =
    rw c.joins
    (drop_at c.before last (length (c.before ++ last) - length last) (omega (arith, length-append c.before last)))

-- `invented_end` is one of them: in the listing that 01 prints it ends with 15 and 1
pub invented-end : InventsEnd invented_end
unfolding computing up_to_confirm listing_run invented_end accepted_count refused_count
invented-end =
    record {
      file = file_bytes listing_run;
      run = listing_run;
      reads = refl;
      other = λ c. let z : ◌≡◌ {A = ℕ} 110 101 = ap (λ xs. get_or xs 0 0) (last-bytes _ _ c) in omega arith;
    }

pub invented-end-differs : invented_end (file_bytes listing_run) ≡ listing hl3 (file_bytes listing_run) → ⊥
unfolding invented-end
invented-end-differs = end-counts-differ invented_end invented-end
