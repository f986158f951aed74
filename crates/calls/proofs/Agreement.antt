-- Demand 3 of the calls: an opening that returned 0, then any list of calls, each lent the bytes that the one before left,
-- refused ones included.
-- Assumes nothing.
use Prim.Native.Nat.{ℕ, ◌^◌, ◌≤◌, ◌<◌}
use native.Mathlib.Omega.{arith}
use mathlib.Core.Path.{◌≡◌, refl, sym, ap, ap₂, ◌∙◌, subst}
use mathlib.Core.Logic.{◌⊎◌, inl, inr, ⊎_elim}
use mathlib.Core.Bool.{Bool, true, false}
use mathlib.Core.List.{List, [], ◌∷◌, ◌++◌, map}
use lib.Dec.{eqb, ltb}
use lib.ListN.{length, drop}
use lib.Seq.{sets, sets-eq}
use borrow.Author.Tests.{eqb-true, eqb-false, eq-eqb, ne_eqb, ltb-true, ltb-false}
use Rattle.base.proofs.Bools.{by_cases, and-true}
use Rattle.model.specs.Hall.{Hall, Payload}
use Rattle.model.specs.Answers.{Answer, from, plain, accepted}
use Rattle.model.specs.Refusals.{order_at}
use Rattle.model.specs.Opening.{Opening}
use Rattle.model.specs.Call.{Words, WordsIn, hl3, step}
use Rattle.model.specs.Run.{accepts}
use Rattle.model.specs.Settle.{calls_taken}
use Rattle.model.specs.Agreed.{Agreed}
use Rattle.model.proofs.Accepting.Accepted.{accepts-deliver}
use Rattle.codec.specs.Bytes.{part, zeros}
use Rattle.codec.specs.Number.{digits, value}
use Rattle.codec.proofs.NumberLaws.{value-digits}
use Rattle.store.specs.Valid.{PayloadIn, ValidHall}
use Rattle.store.specs.StoredForm.{stored}
use Rattle.store.proofs.KeepFacts.{inside?}
use Rattle.store.proofs.KeepValid.{payloads-in}
use Rattle.calls.specs.Calls.{step_on, open_on, run_on, settling_on, settle_on}
use Rattle.calls.specs.Lent.{answer_length, words_bytes, answer_bytes, with_answer, step_lent, settle_lent, Leaves}
use Rattle.calls.specs.Histories.{Made, history_of, Opens, made_on, history_on, settle_made, HallCall, steps, settles, StepsMet, step_words, steps_left, steps_made, LentStep, LentSettle, LentCall, LentMet, lent_words, lent_left, word_in, deliver_in, lent_made}
use Rattle.calls.proofs.RunLaw.{step-stored}
use Rattle.calls.proofs.Refused.{lent-refused, lent-short, lent-done, lent-taken, refused-keeps}
use Rattle.calls.proofs.SettleLaws.{settle-low}
use Rattle.calls.proofs.Runs.{Performs, Turned, Sound, sound-agree}

-- ## Calls of the definition

pub made-sound : (b : List ℕ) (ws : List Words) → Sound b (made_on b ws) (run_on b ws)
unfolding made_on run_on
made-sound b [] = refl
made-sound b (w ∷ ws) =
    (inl (record { before = refl; taken = refl; after = refl; answer = λ h rest v e k t. refl }), made-sound (step_on b w).bytes ws)

pub made-words : (b : List ℕ) (ws : List Words) → map (λ (m : Made). m.words) (made_on b ws) ≡ ws
unfolding made_on
made-words b [] = refl
made-words b (w ∷ ws) = ap (λ (l : List Words). w ∷ l) (made-words (step_on b w).bytes ws)

-- demand 3 of the definitions: any opening that is taken, then any list of steps
pub agreement-on : (b : List ℕ) (o : Opening) → (open_on b o).number ≡ 0 → (ws : List Words) → WordsIn ws
    → Agreed (history_on (open_on b o).bytes ws)
agreement-on b o t ws low =
    let c = (open_on b o).bytes in
    sound-agree b o t (made_on c ws) (run_on c ws) (subst WordsIn (sym (made-words c ws)) low) (made-sound c ws)

-- ## Settles: the steps of their runs

sound-append : (b : List ℕ) (ms : List Made) (c : List ℕ) (ns : List Made) (d : List ℕ) → Sound b ms c → Sound c ns d → Sound b (ms ++ ns) d
sound-append b [] c ns d s t = subst (λ (x : List ℕ). Sound x ns d) s t
sound-append b (m ∷ ms) c ns d s t = (s.0, sound-append m.after ms c ns d s.1 t)

words_append : (xs ys : List Made) → WordsIn (map (λ (m : Made). m.words) xs) → WordsIn (map (λ (m : Made). m.words) ys)
    → WordsIn (map (λ (m : Made). m.words) (xs ++ ys))
words_append [] ys p q = q
words_append (x ∷ xs) ys p q = (p.0, words_append xs ys p.1 q)

settle-made-words : (b : List ℕ) → WordsIn (map (λ (m : Made). m.words) (settle_made b))
unfolding settle_made
settle-made-words b = subst WordsIn (sym (made-words b (calls_taken (settling_on b)))) (settle-low b)

settle-made-sound : (b c : List ℕ) → c ≡ (settle_on b).bytes → Sound b (settle_made b) c
unfolding settle_made settle_on
settle-made-sound b c e = subst (Sound b (settle_made b)) (sym e) (made-sound b (calls_taken (settling_on b)))

-- ## Calls of `open`, `step` and `settle`

pub steps-sound : (b : List ℕ) (cs : List HallCall) → StepsMet b cs → Sound b (steps_made b cs) (steps_left b cs)
unfolding steps_made steps_left
steps-sound b [] met = refl
steps-sound b (steps c ∷ cs) met = (
  inl (record {
    before = refl;
    taken = ap accepted met.0.answer;
    after = met.0.bytes;
    answer = λ h rest v e k t. met.0.answer;
  }),
  steps-sound c.bytes cs met.1,
)
steps-sound b (settles c ∷ cs) met =
    sound-append b (settle_made b) c.bytes (steps_made c.bytes cs) (steps_left c.bytes cs)
    (settle-made-sound b c.bytes met.0.bytes) (steps-sound c.bytes cs met.1)

pub steps-words : (b : List ℕ) (cs : List HallCall) → WordsIn (step_words cs) → WordsIn (map (λ (m : Made). m.words) (steps_made b cs))
unfolding steps_made step_words
steps-words b [] low = tt
steps-words b (steps c ∷ cs) low = (low.0, steps-words c.bytes cs low.1)
steps-words b (settles c ∷ cs) low =
    words_append (settle_made b) (steps_made c.bytes cs) (settle-made-words b) (steps-words c.bytes cs low)

-- demand 3 of the calls: `open` returned 0, and each `step` and each `settle` meets its contract
pub calls-agree : (b : List ℕ) (o : Opening) (n : ℕ) (d : List ℕ) → Opens b o n d → n ≡ 0
    → (cs : List HallCall) → StepsMet d cs → WordsIn (step_words cs) → Agreed (history_of (steps_made d cs) (steps_left d cs))
calls-agree b o n d opens t cs met low =
    sound-agree b o (sym opens.number ∙ t) (steps_made d cs) (steps_left d cs) (steps-words d cs low)
    (subst (λ (x : List ℕ). Sound x (steps_made d cs) (steps_left d cs)) opens.bytes (steps-sound d cs met))

-- ## Calls of `hall_open`, `hall_step` and `hall_settle`

-- an entry's sender in a valid hall is a 32-bit word, also where no entry is
sender-word : (h : Hall) → ValidHall h → (e : ℕ) → h.entries.sender e < 2 ^ 32
sender-word h v e =
    let i = v.in_range.entries in
    ⊎_elim (λ b. omega (arith, (i.sender_in e b.0 b.1).1, v.in_range.size.1)) (λ o. omega (arith, (i.blank e o).0)) (inside? h.entries.count e)

-- the words that a deliver's answer is written as
answer-words : (out : List ℕ) (s : ℕ) (x : Payload) → answer_length ≤ length out → s < 2 ^ 32 → PayloadIn x
    → deliver_in (with_answer out (plain (from s x)).values) ≡ from s x
unfolding deliver_in plain with_answer answer_bytes words_bytes word_in digits
answer-words out s x l i j =
    let xs = words_bytes (plain (from s x)).values ++ zeros 40 in
    let e : sets out 0 xs ≡ xs ++ drop 64 out = sets-eq xs out 0 (omega arith) in
    ap₂ (λ (p v : ℕ). from p (record { value = v }))
    (ap (λ (z : List ℕ). value (part 4 4 z)) e ∙ value-digits 4 s (omega arith))
    (ap (λ (z : List ℕ). value (part 8 4 z)) e ∙ value-digits 4 x.value (omega (arith, j.value)))

module _ (b : List ℕ) (c : LentStep) (met : Leaves (step_lent b c.words c.out) c.number c.hall c.answer) where
  abbrev w : Words
  w = c.words

  abbrev x : Answer
  x = (step_on b w).answer

  abbrev made : Made
  made =
      record {
        words = w;
        before = b;
        taken = eqb c.number 0;
        answer = deliver_in c.answer;
        after = c.hall;
      }

  -- a call that returned a refusal changed nothing
  turned : (n : ℕ) → (n ≡ 0 → ⊥) → Leaves (step_lent b w c.out) n b c.out → Turned b made
  turned n ne l =
      record {
        before = refl;
        taken = ne_eqb c.number 0 (λ e. ne (l.number ∙ sym met.number ∙ e));
        after = met.bytes ∙ sym l.bytes;
      }

  -- a deliver that is accepted on a valid hall wrote the entry's sender and value
  deliver-answer : answer_length ≤ length c.out → c.answer ≡ with_answer c.out (plain x).values → accepted x ≡ true
      → (h : Hall) (rest : List ℕ) → ValidHall h → b ≡ stored h ++ rest → w.k ≡ 11 → made.answer ≡ x
  unfolding accepts
  deliver-answer room written done h rest v e k =
      let es = h.entries in
      let at = order_at h w.r (h.recorders.report w.r) in
      let same : x ≡ (step hl3 h w).answer = ap (λ (b : List ℕ). (step_on b w).answer) e ∙ (step-stored h v rest w).0 in
      let y : x ≡ from (es.sender at) (es.payload at) =
      same
      ∙ (accepts-deliver hl3 h w w.r
      (and-true (eqb w.k 11) _ (eq-eqb w.k 11 k) (and-true (eqb w.r w.r) _ (eq-eqb w.r w.r refl) (ap accepted (sym same) ∙ done)))
      ).2 in
      ap deliver_in (written ∙ ap (λ (z : Answer). with_answer c.out (plain z).values) y)
      ∙ answer-words c.out (es.sender at) (es.payload at) room (sender-word h v at) (payloads-in h.size es v.in_range.entries at)
      ∙ sym y

  lent-sound : Performs b made ⊎ Turned b made
  unfolding step_lent accepted
  lent-sound =
      by_cases (eqb (plain x).number 0)
      (λ t.
      by_cases (ltb (length c.out) answer_length)
      (λ u. inr (turned 18 (λ e. absurd (omega arith)) (lent-short (plain x) b (step_on b w).bytes c.out (eqb-true _ 0 t) (ltb-true _ _ u))))
      (λ u.
      let room = ltb-false _ _ u in
      let l = lent-done (plain x) b (step_on b w).bytes c.out (eqb-true _ 0 t) room in
      inl (record {
        before = refl;
        taken = eq-eqb c.number 0 (met.number ∙ sym l.number) ∙ sym t;
        after = met.bytes ∙ sym l.bytes;
        answer = λ h rest v e k y. deliver-answer room (met.answer ∙ sym l.answer) t h rest v e k;
      })))
      (λ t.
      let ne = eqb-false (plain x).number 0 t in
      inr (turned (plain x).number ne (lent-refused (plain x) b (step_on b w).bytes c.out (plain x).number refl ne)))

-- a settle that returned 0 did what its definition says, another did nothing
module _ (b : List ℕ) (c : LentSettle) (met : Leaves (settle_lent b c.out) c.number c.hall c.answer) where
  abbrev settle_steps : List Made
  settle_steps = elim (eqb c.number 0) [ true ↦ settle_made b | false ↦ [] ]

  by_number : (t : Bool) → eqb c.number 0 ≡ t → Sound b (elim t [ true ↦ settle_made b | false ↦ [] ]) c.hall
  unfolding settle_lent
  by_number true t = settle-made-sound b c.hall (met.bytes ∙ lent-taken (settle_on b).answer b (settle_on b).bytes c.out (sym met.number ∙ eqb-true c.number 0 t))
  by_number false t = met.bytes ∙ refused-keeps.settle_hall b c.out (λ z. eqb-false c.number 0 t (met.number ∙ z))

  lent-settle-sound : Sound b settle_steps c.hall
  lent-settle-sound = by_number (eqb c.number 0) refl

  lent-settle-words : WordsIn (map (λ (m : Made). m.words) settle_steps)
  lent-settle-words = go (eqb c.number 0)
    where
      go : (t : Bool) → WordsIn (map (λ (m : Made). m.words) (elim t [ true ↦ settle_made b | false ↦ [] ]))
      go true = settle-made-words b
      go false = tt

pub lents-sound : (b : List ℕ) (cs : List LentCall) → LentMet b cs → Sound b (lent_made b cs) (lent_left b cs)
unfolding lent_made lent_left
lents-sound b [] met = refl
lents-sound b (LentCall.steps c ∷ cs) met = (lent-sound b c met.0, lents-sound c.hall cs met.1)
lents-sound b (LentCall.settles c ∷ cs) met =
    sound-append b (settle_steps b c met.0) c.hall (lent_made c.hall cs) (lent_left c.hall cs)
    (lent-settle-sound b c met.0) (lents-sound c.hall cs met.1)

pub lents-words : (b : List ℕ) (cs : List LentCall) → LentMet b cs → WordsIn (lent_words cs) → WordsIn (map (λ (m : Made). m.words) (lent_made b cs))
unfolding lent_made lent_words
lents-words b [] met low = tt
lents-words b (LentCall.steps c ∷ cs) met low = (low.0, lents-words c.hall cs met.1 low.1)
lents-words b (LentCall.settles c ∷ cs) met low =
    words_append (settle_steps b c met.0) (lent_made c.hall cs) (lent-settle-words b c met.0) (lents-words c.hall cs met.1 low)

-- demand 3 of the C calls: `hall_open` returned 0, and each `hall_step` and each `hall_settle` meets its contract, whatever
-- slice its answer had
pub c-calls-agree : (b : List ℕ) (o : Opening) (n : ℕ) (d : List ℕ) → Opens b o n d → n ≡ 0
    → (cs : List LentCall) → LentMet d cs → WordsIn (lent_words cs) → Agreed (history_of (lent_made d cs) (lent_left d cs))
c-calls-agree b o n d opens t cs met low =
    sound-agree b o (sym opens.number ∙ t) (lent_made d cs) (lent_left d cs) (lents-words d cs met low)
    (subst (λ (x : List ℕ). Sound x (lent_made d cs) (lent_left d cs)) opens.bytes (lents-sound d cs met))
