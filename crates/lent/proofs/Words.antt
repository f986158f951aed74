-- Words written one after another. Assumes nothing.
use Prim.Native.Nat.{ℕ, ◌+◌, ◌-◌, ◌*◌, ◌≤◌, ◌<◌}
use native.Mathlib.Omega.{arith}
use native.Mathlib.Numerals.{add-one}
use mathlib.Core.Path.{◌≡◌, refl, sym, ap, ap₂, ◌∙◌}
use mathlib.Core.List.{List, [], ◌∷◌, ◌++◌, append_assoc, append-nil}
use lib.ListN.{length, take, get_or, length-append}
use lib.Seq.{sets, take-suc, take_all, length-take-le}
use Rattle.codec.specs.Bytes.{zeros}
use Rattle.codec.proofs.BytesLaws.{sets-append}
use Rattle.codec.specs.Number.{digits}
use Rattle.codec.proofs.NumberLaws.{block-digits}
use Rattle.calls.specs.Lent.{answer_length, words_bytes, answer_bytes, with_answer}

pub length-words : (vs : List ℕ) → length (words_bytes vs) ≡ 4 * length vs
unfolding words_bytes
length-words [] = refl
length-words (v ∷ vs) = simp length-append (omega (arith, (block-digits 4 v).len, length-words vs))

words_append : (xs ys : List ℕ) → words_bytes (xs ++ ys) ≡ words_bytes xs ++ words_bytes ys
unfolding words_bytes
words_append [] ys = refl
words_append (x ∷ xs) ys = ap (λ (z : List ℕ). digits 4 x ++ z) (words_append xs ys) ∙ sym (append_assoc (digits 4 x) (words_bytes xs) (words_bytes ys))

-- one word more
pub put_next : (l : List ℕ) (i : ℕ) (vs b c : List ℕ) → i < length vs → b ≡ sets l 0 (words_bytes (take i vs))
    → c ≡ sets b (i * 4) (digits 4 (get_or vs i 0)) → c ≡ sets l 0 (words_bytes (take (i + 1) vs))
unfolding words_bytes
put_next l i vs b c h e f =
    let v = get_or vs i 0 in
    let n : i * 4 ≡ 0 + length (words_bytes (take i vs)) = omega (arith, length-words (take i vs), length-take-le i vs (omega arith)) in
    let more : words_bytes (take (i + 1) vs) ≡ words_bytes (take i vs) ++ digits 4 v =
    ap (λ (j : ℕ). words_bytes (take j vs)) (add-one i) ∙ ap words_bytes (take-suc vs i 0 h) ∙ words_append (take i vs) (v ∷ [])
    ∙ ap (λ (z : List ℕ). words_bytes (take i vs) ++ z) (append-nil (digits 4 v)) in
    f ∙ ap₂ (λ (z : List ℕ) (j : ℕ). sets z j (digits 4 v)) e n
    ∙ sym (ap (sets l 0) more ∙ sets-append l 0 (words_bytes (take i vs)) (digits 4 v))

-- all words, and the zeros
pub put_rest : (l vs b c : List ℕ) (i : ℕ) → length vs ≤ i → b ≡ sets l 0 (words_bytes (take i vs))
    → c ≡ sets b (length vs * 4) (zeros (answer_length - length vs * 4)) → c ≡ with_answer l vs
unfolding with_answer answer_bytes
put_rest l vs b c i h e f =
    let n : length vs * 4 ≡ 0 + length (words_bytes vs) = omega (arith, length-words vs) in
    let m : answer_length - length vs * 4 ≡ answer_length - 4 * length vs = omega arith in
    f
    ∙ ap₂ (λ (z : List ℕ) (j : ℕ). sets z j (zeros (answer_length - length vs * 4))) (e ∙ ap (λ (z : List ℕ). sets l 0 (words_bytes z)) (take_all i vs h)) n
    ∙ ap (λ (j : ℕ). sets (sets l 0 (words_bytes vs)) (0 + length (words_bytes vs)) (zeros j)) m
    ∙ sym (sets-append l 0 (words_bytes vs) (zeros (answer_length - 4 * length vs)))
