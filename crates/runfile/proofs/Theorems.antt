-- What is written reads back; a file without earlier bytes is written back unchanged; earlier bytes do not matter.
-- Assumes nothing.
use Prim.Native.Nat.{ℕ, suc, ◌+◌, ◌-◌, ◌*◌, ◌^◌, ◌≤◌, ◌<◌}
use native.Mathlib.Omega.{arith}
use mathlib.Core.Path.{◌≡◌, refl, sym, ap, ap₂, ◌∙◌}
use mathlib.Core.Bool.{Bool, true, false}
use mathlib.Core.List.{List, [], ◌∷◌, ◌++◌, append-nil}
use lib.Dec.{eqb, lit<}
use lib.ListN.{length, get_or, take, drop, length-append, length-drop, take-append-drop}
use lib.Seq.{sets, sets-eq, take_at, drop_at, take_all, drop-drop, drop-append-add}
use borrow.Author.Tests.{eqb-true}
use Rattle.base.specs.Lists.{Each}
use Rattle.base.specs.Chains.{refuse, ◌⨾◌}
use Rattle.base.proofs.Bools.{and_both}
use Rattle.model.specs.Opening.{open_refusal}
use Rattle.model.specs.Call.{Words, words_of}
use Rattle.model.specs.RunFile.{FileOpening, opening_in, max_file, max_actions, opening_length, distance, block_at, block_bytes, blocks_at, blocks_bytes, opening_at, opening_bytes, RunText, trailer_of, run_part, broken_file, read_text, Reading, read_refusal, read_file, file_bytes, WriteAnswer, write_file}
use Rattle.runfile.specs.declared.FileOpening as Code
use Rattle.runfile.specs.Answers.{file_opening, trailer_for, rest_zero, actions_of, run_of}
use Rattle.runfile.specs.InRange.{Bytes, Small, SmallRun, opening_read, as_read}
use Rattle.runfile.proofs.Blocks.{bytes_drop, length-block_bytes, length-blocks_bytes, length-blocks_at, bytes-block, block-bytes, bytes-blocks, blocks-bytes}
use Rattle.runfile.proofs.Openings.{fits, few, least, head, length-opening_bytes, block-is, bytes-opening, same-opening, opening-bytes}
use Rattle.runfile.proofs.Read.{OpenedBy, Readable, readable, not-broken, read-text, taken}
use Rattle.runfile.proofs.WriteLaws.{Allowed, not-refusing, written-when, write-run}

-- reading is decided by these two
reading : (xs ys : List ℕ) → broken_file xs ≡ broken_file ys → read_text xs ≡ read_text ys → read_file xs ≡ read_file ys
unfolding read_file read_refusal
reading xs ys e f =
    ap₂
    (λ (broken : Bool) (x : RunText).
    elim (eqb (refuse broken 19 ⨾ open_refusal (opening_in x.opening)) 0) [
      | true ↦ Reading.text x
      | false ↦ Reading.refused (refuse broken 19 ⨾ open_refusal (opening_in x.opening))
    ])
    e f

-- the run of a part of a file, by the trailer
abbrev text_of : List ℕ → Words → RunText
text_of part t = record { opening = opening_at part; actions = blocks_at t.r (drop (opening_length (opening_at part).third) part) }

-- ## "Bytes before the block are passed over."

module _ (pre f : List ℕ) (g : Readable f) where
  from_end : (d : ℕ) → d ≤ length f → drop (length (pre ++ f) - d) (pre ++ f) ≡ drop (length f - d) f
  from_end d h =
      let e : length (pre ++ f) - d ≡ length pre + (length f - d) = omega (arith, length-append pre f) in
      ap (λ (n : ℕ). drop n (pre ++ f)) e ∙ drop-append-add pre f (length f - d)

  same-trailer : trailer_of (pre ++ f) ≡ trailer_of f
  unfolding trailer_of
  same-trailer = ap block_at (from_end 16 (omega (arith, g.low)))

  same-part : run_part (pre ++ f) ≡ run_part f
  unfolding run_part
  same-part =
      ap (λ (t : Words). drop (length (pre ++ f) - t.k) (pre ++ f)) same-trailer
      ∙ from_end (trailer_of f).k g.trailer.inside

  same_text : read_text (pre ++ f) ≡ read_text f
  unfolding read_text
  same_text = ap₂ text_of same-part same-trailer

  still : length pre + length f ≤ 65536 → Readable (pre ++ f)
  still h =
      let l = length-append pre f in
      record {
        low = omega (arith, g.low);
        high = omega arith;
        trailer =
            rw same-trailer
            (record { low = g.trailer.low; inside = omega (arith, g.trailer.inside); rest = g.trailer.rest });
        opening = rw (same-part, same-trailer) g.opening;
      }

pub earlier-bytes : (pre f : List ℕ) → broken_file f ≡ false → length pre + length f ≤ max_file
    → (read_text (pre ++ f) ≡ read_text f) × (read_file (pre ++ f) ≡ read_file f)
unfolding max_file
earlier-bytes pre f e h =
    let g = readable f e in
    let t = same_text pre f g in
    (t, reading (pre ++ f) f (not-broken (pre ++ f) (still pre f g h) ∙ sym e) t)

-- ## "It reads back as the same opening and actions"

module _ (x : RunText) (s : SmallRun x) (third : x.opening.third ≤ 1) (many : length x.actions ≤ max_actions x.opening.third) where
  abbrev o : FileOpening
  o = x.opening

  abbrev n : ℕ
  n = length x.actions

  -- where the actions start
  abbrev start : ℕ
  start = opening_length o.third

  abbrev f : List ℕ
  f = file_bytes x

  -- the actions, the trailer
  abbrev body : List ℕ
  body = blocks_bytes x.actions ++ block_bytes (trailer_for o.third n)

  parts : f ≡ opening_bytes o ++ body
  unfolding file_bytes
  parts = refl

  length-head : length (opening_bytes o) ≡ start
  length-head = length-opening_bytes o s.opening.eight

  length-body : length body ≡ 16 * n + 16
  length-body =
      length-append (blocks_bytes x.actions) (block_bytes (trailer_for o.third n))
      ∙ ap₂ ◌+◌ (length-blocks_bytes x.actions) (length-block_bytes (trailer_for o.third n))

  pub length-file : length f ≡ distance o.third n
  unfolding distance
  length-file = ap length parts ∙ length-append (opening_bytes o) body ∙ omega (arith, length-head, length-body)

  -- it is within a file
  high : distance o.third n ≤ 65536
  high = fits o.third n many

  rest_of : drop start f ≡ body
  rest_of = ap (drop start) parts ∙ drop_at (opening_bytes o) body start length-head

  trailer : trailer_of f ≡ trailer_for o.third n
  unfolding trailer_of distance
  trailer =
      let t : Words = trailer_for o.third n in
      let e : length f - 16 ≡ start + 16 * n = omega (arith, length-file) in
      let small : Small t = record { k = omega (arith, high); r = omega (arith, high); a = lit< tt; b = lit< tt } in
      ap block_at
      (ap (λ (m : ℕ). drop m f) e
      ∙ sym (drop-drop (16 * n) start f)
      ∙ ap (drop (16 * n)) rest_of
      ∙ drop_at (blocks_bytes x.actions) (block_bytes t) (16 * n) (length-blocks_bytes x.actions)
      ∙ sym (append-nil (block_bytes t)))
      ∙ bytes-block t small []

  part : run_part f ≡ f
  unfolding run_part
  part =
      let e : length f - distance o.third n ≡ 0 = omega (arith, length-file) in
      ap (λ (t : Words). drop (length f - t.k) f) trailer ∙ ap (λ (m : ℕ). drop m f) e

  opening : block_at f ≡ head o
  opening = ap block_at parts ∙ block-is o s.opening third body

  written-good : Readable f
  written-good =
      let low : 32 ≤ distance o.third n = least o.third n in
      record {
        low = omega (arith, length-file);
        high = omega (arith, length-file, high);
        trailer = rw trailer (record { low = low; inside = omega (arith, length-file); rest = refl });
        opening = rw (part, opening, trailer) (record { third = third; last = refl; back = refl });
      }

  written-text : read_text f ≡ as_read x
  unfolding read_text
  written-text =
      let op : opening_at f ≡ opening_read o = ap opening_at parts ∙ bytes-opening o s.opening third body in
      let acts : blocks_at n (drop start f) ≡ x.actions =
      ap (blocks_at n) rest_of ∙ bytes-blocks x.actions s.actions (block_bytes (trailer_for o.third n)) in
      ap₂ text_of part trailer
      ∙ ap (λ (y : FileOpening). record { opening = y; actions = blocks_at n (drop (opening_length y.third) f) }) op
      ∙ ap (λ (ws : List Words). record { opening = opening_read o; actions = ws }) acts

-- the words that an opening and a slice of 32-bit words hold
pub small-run : (o : Code.FileOpening) (ws : List ℕ) → length o.words ≡ 8 → o.size < 2 ^ 32 → o.founders < 2 ^ 32
    → ((i : ℕ) → get_or o.words i 0 < 2 ^ 32) → ((i : ℕ) → get_or ws i 0 < 2 ^ 32) → SmallRun (run_of (file_opening o) ws)
unfolding actions_of
small-run o ws n h k v s =
    record {
      opening = record { size = h; founders = k; words = λ e. each o.words v; eight = λ e. n };
      actions = all ws s;
    }
  where
    each : (ws : List ℕ) → ((i : ℕ) → get_or ws i 0 < 2 ^ 32) → Each (λ w. w < 2 ^ 32) ws
    each [] s = tt
    each (w ∷ ws) s = (s 0, each ws (λ i. s (suc i)))

    all : (ws : List ℕ) → ((i : ℕ) → get_or ws i 0 < 2 ^ 32) → Each Small (actions_of ws)
    all [] s = tt
    all (k ∷ []) s = tt
    all (k ∷ r ∷ []) s = tt
    all (k ∷ r ∷ a ∷ []) s = tt
    all (k ∷ r ∷ a ∷ b ∷ ws) s = (record { k = s 0; r = s 1; a = s 2; b = s 3 }, all ws (λ i. s (suc (suc (suc (suc i))))))

-- the slice after a run of n bytes was written
front : (x : RunText) (slice : List ℕ) → length (file_bytes x) ≤ length slice
    → sets slice 0 (file_bytes x) ≡ file_bytes x ++ drop (length (file_bytes x)) slice
front x slice h =
    let z : 0 + length (file_bytes x) ≡ length (file_bytes x) = omega arith in
    sets-eq (file_bytes x) slice 0 (omega arith) ∙ ap (λ (m : ℕ). file_bytes x ++ drop m slice) z

pub reads-back : (x : RunText) (slice : List ℕ) (n : ℕ) → SmallRun x → (write_file x slice).answer ≡ WriteAnswer.written n
    → read_file (take n (write_file x slice).bytes) ≡ Reading.text (as_read x)
reads-back x slice n s e =
    let w = written-when x slice n e in
    let a = w.allows in
    let f = file_bytes x in
    let l = length-file x s a.third a.few in
    let t = written-text x s a.third a.few in
    let same : take n (write_file x slice).bytes ≡ f =
    ap (take n) (w.bytes ∙ front x slice (omega (arith, a.fits)))
    ∙ take_at f (drop (length f) slice) n (l ∙ sym w.size) in
    let right : open_refusal (opening_in (read_text f).opening) ≡ 0 =
    ap (λ (y : RunText). open_refusal (opening_in y.opening)) t ∙ ap open_refusal (same-opening x.opening) ∙ a.right in
    ap read_file same
    ∙ read-text f (not-broken f (written-good x s a.third a.few)) right
    ∙ ap Reading.text t

-- ## "a file without earlier bytes is written back unchanged"

module _ (bs : List ℕ) (g : Readable bs) (whole : length bs ≡ (trailer_of bs).k) (b : Bytes bs) where
  abbrev c : ℕ
  c = (trailer_of bs).r

  abbrev third : ℕ
  third = (block_at bs).a

  abbrev from : ℕ
  from = opening_length third

  all : run_part bs ≡ bs
  unfolding run_part
  all =
      let e : length bs - (trailer_of bs).k ≡ 0 = omega arith in
      ap (λ (m : ℕ). drop m bs) e

  opened : OpenedBy (block_at bs) (trailer_of bs)
  opened = rw all at g.opening

  long : length bs ≡ from + 16 + 16 * c
  unfolding distance
  long = whole ∙ opened.back

  first : opening_bytes (opening_at bs) ≡ take from bs
  first = opening-bytes bs opened.last (omega (arith, long)) b

  -- a trailer with two zeros at its end
  zeros : (w : Words) → rest_zero w ≡ true → words_of w.k w.r 0 0 ≡ w
  zeros w e =
      let p = and_both (eqb w.a 0) (eqb w.b 0) e in
      λ i. record { k = w.k; r = w.r; a = sym (eqb-true w.a 0 p.0) i; b = sym (eqb-true w.b 0 p.1) i }

  last : block_bytes (trailer_for third c) ≡ drop (16 * c) (drop from bs)
  unfolding trailer_of
  last =
      let t = trailer_of bs in
      let e : length bs - 16 ≡ from + 16 * c = omega (arith, long) in
      let l : length (drop (length bs - 16) bs) ≤ 16 = simp length-drop (omega (arith, g.low)) in
      let d : drop (length bs - 16) bs ≡ drop (16 * c) (drop from bs) = ap (λ (m : ℕ). drop m bs) e ∙ sym (drop-drop (16 * c) from bs) in
      ap (λ (k : ℕ). block_bytes (words_of k c 0 0)) (sym opened.back)
      ∙ ap block_bytes (zeros t g.trailer.rest)
      ∙ block-bytes (drop (length bs - 16) bs) (simp length-drop (omega (arith, g.low))) (bytes_drop (length bs - 16) bs b)
      ∙ take_all 16 (drop (length bs - 16) bs) l
      ∙ d

  text : read_text bs ≡ text_of bs (trailer_of bs)
  unfolding read_text
  text = ap (λ (part : List ℕ). text_of part (trailer_of bs)) all

  pub count : length (read_text bs).actions ≡ c
  count = ap (λ (y : RunText). length y.actions) text ∙ length-blocks_at c _

  pub third-is : (read_text bs).opening.third ≡ third
  unfolding opening_at
  third-is = ap (λ (y : RunText). y.opening.third) text

  file-back : file_bytes (read_text bs) ≡ bs
  unfolding file_bytes opening_at
  file-back =
      let rest : List ℕ = drop from bs in
      let n : length (blocks_at c rest) ≡ c = length-blocks_at c rest in
      let room : 16 * c ≤ length rest = simp length-drop (omega (arith, long)) in
      ap file_bytes text
      ∙ ap₂ ◌++◌ first
      (ap₂ ◌++◌ (blocks-bytes c rest room (bytes_drop from bs b)) (ap (λ (m : ℕ). block_bytes (trailer_for third m)) n ∙ last)
      ∙ take-append-drop (16 * c) rest)
      ∙ take-append-drop from bs

pub file-written-back : (bs : List ℕ) → broken_file bs ≡ false → length bs ≡ (trailer_of bs).k → Bytes bs → file_bytes (read_text bs) ≡ bs
file-written-back bs e whole b = file-back bs (readable bs e) whole b

-- written into a slice that is long enough, it stands at the slice's start, and the bytes after it stay
pub writes-back : (bs : List ℕ) (x : RunText) (slice : List ℕ) → read_file bs ≡ Reading.text x → length bs ≡ (trailer_of bs).k → Bytes bs
    → length bs ≤ length slice
    → write_file x slice ≡ record { answer = WriteAnswer.written (length bs); bytes = bs ++ drop (length bs) slice }
writes-back bs x slice e whole b h =
    let k = taken bs x e in
    let g = readable bs k.sound in
    let o = x.opening in
    let n : ℕ = length x.actions in
    let third : o.third ≡ (block_at bs).a = ap (λ (y : RunText). y.opening.third) k.same ∙ third-is bs g whole b in
    let many : n ≡ (trailer_of bs).r = ap (λ (y : RunText). length y.actions) k.same ∙ count bs g whole b in
    let size : distance o.third n ≡ length bs = ap₂ distance third many ∙ sym (opened bs g whole b).back ∙ sym whole in
    let file : file_bytes x ≡ bs = ap file_bytes k.same ∙ file-back bs g whole b in
    let right : open_refusal (opening_in o) ≡ 0 = ap (λ (y : RunText). open_refusal (opening_in y.opening)) k.same ∙ k.right in
    let a : Allowed o n (length slice) =
    record {
      right = right;
      third = rw third (opened bs g whole b).third;
      few = few o.third n (omega (arith, g.high));
      fits = omega arith;
    } in
    write-run x slice (not-refusing o n (length slice) a)
    ∙ ap₂ (λ (m : ℕ) (ys : List ℕ). record { answer = WriteAnswer.written m; bytes = ys }) size
    (front x slice (omega (arith, ap length file)) ∙ ap (λ (ys : List ℕ). ys ++ drop (length ys) slice) file)
