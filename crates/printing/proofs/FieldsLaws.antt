-- Laws of the parts of a line. Assumes nothing.
use Prim.Native.Nat.{ℕ, zero, suc, ◌+◌, ◌*◌, ◌^◌, ◌≤◌, ◌<◌}
use native.Mathlib.Numerals.{add-one}
use native.Mathlib.Omega.{arith}
use mathlib.Core.Path.{◌≡◌, refl, sym, ap, subst, ◌∙◌}
use mathlib.Core.List.{List, [], ◌∷◌, ◌++◌, append_assoc, append-nil, map}
use lib.ListN.{length, take, drop, get_or, length-append, length-take}
use lib.Seq.{sets-eq, take_at}
use Rattle.base.specs.Lists.{Each}
use Rattle.model.specs.Listing.{decimal, fields_after, line}
use Rattle.text.specs.Text.{Room, Wrote}
use Rattle.text.specs.Fields.{number_text}
use Rattle.text.proofs.TextLaws.{wrote-length}
use Rattle.text.proofs.Decimal.{decimal-word}
use Rattle.printing.specs.declared.PrintedLine.{PrintedLine}
use Rattle.printing.specs.Lines.{spaced, Holds}

-- ## Room for two texts, one after the other

pub room-first : {b xs : List ℕ} {o : ℕ} (ys : List ℕ) → Room b o (xs ++ ys) → Room b o xs
room-first {xs} ys r = record { fits = omega (arith, r.fits, length-append xs ys) }

pub room-rest : {b xs a ys : List ℕ} {o n : ℕ} → Wrote b o xs a n → Room b o (xs ++ ys) → Room a n ys
room-rest {xs} {ys} w r = record { fits = omega (arith, r.fits, w.next, wrote-length w, length-append xs ys) }

-- equal texts
pub room_as : {b xs ys : List ℕ} {o : ℕ} → xs ≡ ys → Room b o xs → Room b o ys
room_as {b} {o} e r = subst (Room b o) e r

-- texts of one length
pub room-long : {b xs ys : List ℕ} {o : ℕ} → length xs ≡ length ys → Room b o xs → Room b o ys
room-long e r = record { fits = omega (arith, r.fits, e) }

pub wrote_as : {b xs ys a : List ℕ} {o n : ℕ} → xs ≡ ys → Wrote b o xs a n → Wrote b o ys a n
wrote_as {b} {a} {o} {n} e w = subst (λ (t : List ℕ). Wrote b o t a n) e w

-- no text
pub wrote_none : (b : List ℕ) (o : ℕ) → Wrote b o [] b o
wrote_none b o = record { bytes = refl; next = omega arith }

-- a text at the start of a buffer is what its bytes begin with
wrote-begins : {b xs a : List ℕ} {n : ℕ} → Wrote b 0 xs a n → Room b 0 xs → take n a ≡ xs
wrote-begins {b} {xs} {n} w r =
    let e : n ≡ length xs = omega (arith, w.next) in
    ap (take n) (w.bytes ∙ sets-eq xs b 0 r.fits) ∙ take_at xs (drop (0 + length xs) b) n (sym e)

-- so it is the text printed
pub prints : {b t a : List ℕ} {n : ℕ} → Wrote b 0 t a n → Room b 0 t → Holds t (record { bytes = a; len = n })
prints w r = record { len = omega (arith, w.next); text = wrote-begins w r }

-- and it lies within the bytes
pub printed-fits : {t : List ℕ} {x : PrintedLine} → Holds t x → x.len ≤ length x.bytes
printed-fits {x} p = omega (arith, p.len, ap length p.text, length-take x.len x.bytes)

-- ## Fields after the first

pub spaced-append : (fs gs : List (List ℕ)) → spaced (fs ++ gs) ≡ spaced fs ++ spaced gs
unfolding spaced
spaced-append [] gs = refl
spaced-append (f ∷ fs) gs =
    ap (λ (l : List ℕ). 32 ∷ (f ++ l)) (spaced-append fs gs) ∙ ap (λ (l : List ℕ). 32 ∷ l) (sym (append_assoc f (spaced fs) (spaced gs)))

-- the fields to the end of the line
pub fields-closed : (fs : List (List ℕ)) → fields_after fs ≡ spaced fs ++ (10 ∷ [])
unfolding fields_after spaced
fields-closed [] = refl
fields-closed (f ∷ fs) =
    ap (λ (l : List ℕ). 32 ∷ (f ++ l)) (fields-closed fs) ∙ ap (λ (l : List ℕ). 32 ∷ l) (sym (append_assoc f (spaced fs) (10 ∷ [])))

pub line-closed : (f : List ℕ) (fs : List (List ℕ)) → line f fs ≡ f ++ (spaced fs ++ (10 ∷ []))
unfolding line
line-closed f fs = ap (λ (l : List ℕ). f ++ l) (fields-closed fs)

-- one field
pub spaced-one : (f : List ℕ) → spaced (f ∷ []) ≡ 32 ∷ f
unfolding spaced
spaced-one f = ap (λ (l : List ℕ). 32 ∷ l) (append-nil f)

-- four numbers
pub four-parts : (w x y z : ℕ) → spaced (map decimal (w ∷ x ∷ y ∷ z ∷ [])) ≡ number_text w ++ (number_text x ++ (number_text y ++ number_text z))
unfolding spaced
four-parts w x y z =
    ap (λ (l : List ℕ). number_text w ++ (number_text x ++ (number_text y ++ (32 ∷ l)))) (append-nil (decimal z))

-- ## Lengths

pub length_none : length (spaced []) ≡ 0
unfolding spaced
length_none = refl

pub length-spaced : (f : List ℕ) (fs : List (List ℕ)) → length (spaced (f ∷ fs)) ≡ suc (length f + length (spaced fs))
unfolding spaced
length-spaced f fs = ap suc (length-append f (spaced fs))

pub length-closed : (f : List ℕ) (fs : List (List ℕ)) → length (line f fs) ≡ length f + (length (spaced fs) + 1)
length-closed f fs =
    ap length (line-closed f fs) ∙ length-append f (spaced fs ++ (10 ∷ [])) ∙ ap (λ (n : ℕ). length f + n) (length-append (spaced fs) (10 ∷ []))

-- a number
pub number_short : (x : ℕ) → x < 2 ^ 32 → length (spaced (decimal x ∷ [])) ≤ 11
number_short x h = omega (arith, length-spaced (decimal x) [], length_none, decimal-word x h)

-- words of 32 bits
pub each-word : (ws : List ℕ) → ((i : ℕ) → get_or ws i 0 < 2 ^ 32) → Each (λ (w : ℕ). w < 2 ^ 32) ws
each-word [] h = tt
each-word (w ∷ ws) h = (h 0, each-word ws (λ i. h (suc i)))

-- numbers
pub numbers-short : (ws : List ℕ) → Each (λ (w : ℕ). w < 2 ^ 32) ws → length (spaced (map decimal ws)) ≤ 11 * length ws
numbers-short [] h = omega (arith, length_none)
numbers-short (w ∷ ws) h =
    omega (arith, length-spaced (decimal w) (map decimal ws), decimal-word w h.0, numbers-short ws h.1)

-- ## Numbers one after another

pub numbers-none : (ws : List ℕ) → spaced (map decimal (take 0 ws)) ≡ []
unfolding spaced
numbers-none ws = refl

-- one number more
numbers-step : (ws : List ℕ) (i : ℕ) → i < length ws → spaced (map decimal (take (suc i) ws)) ≡ spaced (map decimal (take i ws)) ++ number_text (get_or ws i 0)
unfolding spaced
numbers-step [] i h = absurd (omega arith)
numbers-step (w ∷ ws) zero h = spaced-one (decimal w)
numbers-step (w ∷ ws) (suc i) h =
    ap (λ (l : List ℕ). 32 ∷ (decimal w ++ l)) (numbers-step ws i (omega arith))
    ∙ ap (λ (l : List ℕ). 32 ∷ l) (sym (append_assoc (decimal w) (spaced (map decimal (take i ws))) (number_text (get_or ws i 0))))

pub numbers-next : (ws : List ℕ) (i : ℕ) → i < length ws → spaced (map decimal (take (i + 1) ws)) ≡ spaced (map decimal (take i ws)) ++ number_text (get_or ws i 0)
numbers-next ws i h = ap (λ (j : ℕ). spaced (map decimal (take j ws))) (add-one i) ∙ numbers-step ws i h

-- some of them are no longer than all
numbers-within : (ws : List ℕ) (i : ℕ) → length (spaced (map decimal (take i ws))) ≤ length (spaced (map decimal ws))
unfolding spaced
numbers-within ws zero = omega arith
numbers-within [] (suc i) = omega arith
numbers-within (w ∷ ws) (suc i) =
    omega (arith, length-spaced (decimal w) (map decimal (take i ws)), length-spaced (decimal w) (map decimal ws), numbers-within ws i)

-- the next one has room
pub number-room : {b a : List ℕ} {o n : ℕ} (ws : List ℕ) (i : ℕ) → i < length ws → Room b o (spaced (map decimal ws))
    → Wrote b o (spaced (map decimal (take i ws))) a n → Room a n (number_text (get_or ws i 0))
number-room ws i h r w =
    let next = ap length (numbers-next ws i h) ∙ length-append (spaced (map decimal (take i ws))) (number_text (get_or ws i 0)) in
    record { fits = omega (arith, r.fits, w.next, wrote-length w, next, numbers-within ws (i + 1)) }
