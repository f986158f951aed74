-- What a reader has, listed by the bytes that were read of it: all of them, or one more than a file may have. Assumes nothing.
use Rattle.std.proofs.Common.{◌≡◌, ℕ, ◌≤◌, ◌<◌, List, [], ◌++◌, length, arith, refl, sym, ap, subst, ◌∙◌, length-append, inl, inr}
use Rattle.std.specs.Prelude.{Option, None, Some, IfSome, Bool, true, false, eqb}
use Rattle.std.proofs.lemmas.List.{append-nil}
use Rattle.std.proofs.Math.Nat.{eq-or-lt_of_le}
use Rattle.std.specs.Io.KnownBytes.{Consumes, IsAtEnd, Appends}
use Rattle.base.specs.Chains.{refuse, ◌⨾◌}
use Rattle.model.specs.Call.{hl3}
use Rattle.model.specs.Opening.{open_refusal}
use Rattle.model.specs.RunFile.{opening_in, read_text, Reading, read_refusal, read_file}
use Rattle.model.specs.Listing.{refused_line, run_lines, listing}
use Rattle.runfile.proofs.Read.{broken-long}

-- the listing by the number of the refusal
abbrev reading : List ℕ → ℕ → Reading
reading bs why = elim (eqb why 0) [ true ↦ Reading.text (read_text bs) | false ↦ Reading.refused why ]

abbrev lines : Reading → List ℕ
lines (Reading.text x) = run_lines hl3 x
lines (Reading.refused k) = refused_line k

abbrev listed : List ℕ → ℕ → List ℕ
listed bs why = lines (reading bs why)

listing-listed : (bs : List ℕ) → listing hl3 bs ≡ listed bs (read_refusal bs)
unfolding listing read_file
listing-listed bs = refl

-- a file of too many bytes is 19
read_refusal-long : (bs : List ℕ) → 65536 < length bs → read_refusal bs ≡ 19
unfolding read_refusal refuse ◌⨾◌
read_refusal-long bs h = ap (λ (t : Bool). refuse t 19 ⨾ open_refusal (opening_in (read_text bs).opening)) (broken-long bs h)

listing-long : (bs : List ℕ) → 65536 < length bs → listing hl3 bs ≡ refused_line 19
listing-long bs h = listing-listed bs ∙ ap (listed bs) (read_refusal-long bs h)

both-long : (front rest : List ℕ) → 65536 < length front → listing hl3 front ≡ listing hl3 (front ++ rest)
both-long front rest h = listing-long front h ∙ sym (listing-long (front ++ rest) (omega (arith, h, length-append front rest)))

listing-front : (front rest : List ℕ) (n : ℕ) → length front ≡ n → n ≤ 65537 → (n < 65537 → rest ≡ []) → listing hl3 front ≡ listing hl3 (front ++ rest)
listing-front front rest n long most ends = elim (eq-or-lt_of_le most) [
  | inl all ↦ both-long front rest (omega (arith, all, long))
  | inr less ↦ ap (listing hl3) (sym (append-nil front) ∙ ap (λ (xs : List ℕ). front ++ xs) (sym (ends less)))
]

pub listing-read : (old new a b : Option (List ℕ)) (front : List ℕ) (n : ℕ) → length front ≡ n → n ≤ 65537 → Consumes old new front
    → (n < 65537 → IsAtEnd new) → Appends a b (listing hl3 front) → IfSome old (λ bytes. Appends a b (listing hl3 bytes))
listing-read None new a b front n long most read ends wrote = tt
listing-read (Some xs) None a b front n long most read ends wrote = absurd read
listing-read (Some xs) (Some ys) a b front n long most read ends wrote =
    subst (Appends a b) (listing-front front ys n long most ends ∙ ap (listing hl3) (sym read)) wrote
