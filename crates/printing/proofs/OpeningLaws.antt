-- Laws of an opening's line. Assumes nothing.
use Prim.Native.Nat.{ℕ, ◌+◌, ◌*◌, ◌^◌, ◌≤◌, ◌<◌}
use native.Mathlib.Omega.{arith}
use mathlib.Core.Path.{◌≡◌, ap, ◌∙◌}
use mathlib.Core.Bool.{Bool, true, false}
use mathlib.Core.List.{List, [], ◌∷◌, ◌++◌, append_assoc, map}
use lib.Dec.{eqb}
use lib.ListN.{length, get_or, length-append}
use borrow.Author.Tests.{eq-eqb, ne_eqb}
use Rattle.base.specs.Lists.{Each}
use Rattle.base.specs.Numbers.{within}
use Rattle.base.proofs.Bools.{by_cases, not-both}
use Rattle.base.proofs.ChainsLaws.{chain-none, link}
use Rattle.base.proofs.NumbersLaws.{within_both}
use Rattle.model.specs.Opening.{wrong_opening, open_refusal}
use Rattle.model.specs.RunFile.{FileOpening, has_votes, opening_in}
use Rattle.model.specs.Listing.{decimal, hall-word}
use Rattle.text.specs.Fields.{number_text}
use Rattle.text.proofs.Decimal.{decimal-word}
use Rattle.story.specs.Sets.{set_text}
use Rattle.story.specs.Keywords.{founders-word, whole_word, votes-word}
use Rattle.story.specs.Printing.{whole_mask, founders_fields, votes_fields, opening_text, tell_refusal}
use Rattle.printing.specs.Lines.{spaced}
use Rattle.printing.proofs.FieldsLaws.{spaced-append, spaced-one, line-closed, length_none, length-spaced, each-word, numbers-short}
use Rattle.printing.proofs.MembersLaws.{set-short}

-- ## Founders

module _ (n m : ℕ) where
  pub founders-none : m ≡ 0 → spaced (founders_fields n m) ≡ []
  unfolding founders_fields spaced
  founders-none e = rw (eq-eqb m 0 e, founders_fields)

  pub founders-whole : (m ≡ 0 → ⊥) → m ≡ whole_mask n → spaced (founders_fields n m) ≡ (32 ∷ founders-word) ++ (32 ∷ whole_word)
  unfolding founders_fields spaced
  founders-whole ne e =
      rw (ne_eqb m 0 ne, founders_fields, eq-eqb m (whole_mask n) e) (ap (λ (l : List ℕ). (32 ∷ founders-word) ++ l) (spaced-one whole_word))

  pub founders-set : (m ≡ 0 → ⊥) → (m ≡ whole_mask n → ⊥)
      → spaced (founders_fields n m) ≡ (32 ∷ founders-word) ++ spaced (set_text m ∷ [])
  unfolding founders_fields spaced
  founders-set ne e = rw (ne_eqb m 0 ne, founders_fields, ne_eqb m (whole_mask n) e)

  founders-short : length (spaced (founders_fields n m)) ≤ 28
  unfolding founders_fields founders-word whole_word
  founders-short = go (eqb m 0) (eqb m (whole_mask n))
    where
      go : (s t : Bool)
          → length (spaced (elim s [ true ↦ [] | false ↦ founders-word ∷ elim t [ true ↦ whole_word | false ↦ set_text m ] ∷ [] ])) ≤ 28
      go true t = omega (arith, length_none)
      go false true = omega (arith, length-spaced founders-word (whole_word ∷ []), length-spaced whole_word [], length_none)
      go false false = omega (arith, length-spaced founders-word (set_text m ∷ []), length-spaced (set_text m) [], length_none, set-short m)

-- ## Votes

pub votes-none : (third : ℕ) (ws : List ℕ) → (third ≡ 1 → ⊥) → spaced (votes_fields third ws) ≡ []
unfolding votes_fields has_votes spaced
votes-none third ws ne = rw (ne_eqb third 1 ne, votes_fields)

pub votes-parts : (third : ℕ) (ws : List ℕ) → third ≡ 1 → spaced (votes_fields third ws) ≡ (32 ∷ votes-word) ++ spaced (map decimal ws)
unfolding votes_fields has_votes spaced
votes-parts third ws e = rw (eq-eqb third 1 e, votes_fields)

votes-short : (third : ℕ) (ws : List ℕ) → Each (λ (w : ℕ). w < 2 ^ 32) ws → length (spaced (votes_fields third ws)) ≤ 6 + 11 * length ws
unfolding votes_fields votes-word
votes-short third ws h = go (has_votes third)
  where
    go : (t : Bool) → length (spaced (elim t [ true ↦ votes-word ∷ map decimal ws | false ↦ [] ])) ≤ 6 + 11 * length ws
    go true = omega (arith, length-spaced votes-word (map decimal ws), numbers-short ws h)
    go false = omega (arith, length_none)

-- ## The line

module _ (o : FileOpening) where
  abbrev pub founders : List ℕ
  founders = spaced (founders_fields o.size o.founders)

  abbrev pub votes : List ℕ
  votes = spaced (votes_fields o.third o.words)

  pub opening-parts : opening_text o ≡ hall-word ++ (number_text o.size ++ (founders ++ (votes ++ (10 ∷ []))))
  unfolding opening_text spaced
  opening-parts = line-closed hall-word (decimal o.size ∷ (fs ++ vs)) ∙ ap (λ (l : List ℕ). hall-word ++ l) joined
    where
      fs : List (List ℕ)
      fs = founders_fields o.size o.founders

      vs : List (List ℕ)
      vs = votes_fields o.third o.words

      joined : spaced (decimal o.size ∷ (fs ++ vs)) ++ (10 ∷ []) ≡ number_text o.size ++ (founders ++ (votes ++ (10 ∷ [])))
      joined =
          append_assoc (number_text o.size) (spaced (fs ++ vs)) (10 ∷ [])
          ∙ ap (λ (l : List ℕ). number_text o.size ++ (l ++ (10 ∷ []))) (spaced-append fs vs)
          ∙ ap (λ (l : List ℕ). number_text o.size ++ l) (append_assoc founders votes (10 ∷ []))

  pub opening-short : o.size < 2 ^ 32 → ((i : ℕ) → get_or o.words i 0 < 2 ^ 32) → length o.words ≡ 8 → length (opening_text o) ≤ 160
  unfolding hall-word
  opening-short hn hw eight =
      omega (
        arith,
        ap length opening-parts,
        length-append hall-word (number_text o.size ++ (founders ++ (votes ++ (10 ∷ [])))),
        length-append (number_text o.size) (founders ++ (votes ++ (10 ∷ []))),
        length-append founders (votes ++ (10 ∷ [])),
        length-append votes (10 ∷ []),
        decimal-word o.size hn,
        founders-short o.size o.founders,
        votes-short o.third o.words (each-word o.words hw),
      )

  -- ## What is refused

  pub size_small : tell_refusal o ≡ 0 → o.size ≤ 8
  unfolding tell_refusal open_refusal opening_in wrong_opening
  size_small e =
      by_cases (within 1 8 o.size) (λ t. (within_both 1 8 o.size t).1) (λ f. absurd (not-both (wrong f) (link _ 15 _ (chain-none _ _ e).0).0))
    where
      wrong : within 1 8 o.size ≡ false → wrong_opening o.size o.founders ≡ true
      wrong f = rw (f, wrong_opening)
