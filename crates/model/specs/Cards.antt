-- The P cards of 01's "Bench cards", and the margins, view numbers, representative, rows, settles and founders that 02 names, one
-- list; the proof over it is in proofs/Cards. A card is what the definitions give and what 01 or 02 says, as lists of numbers.
-- Assumes nothing.
use Rattle.std.specs.Prelude.{ℕ, true, false, List, [], ◌∷◌, ◌++◌, map, length, replicate}
use Rattle.quorum.specs.Sets.{in_mask}
use Rattle.quorum.specs.Votes.{margin, quorum, built_in}
use Rattle.model.specs.Ordering.{Choice, greatest_numbered, chosen}
use Rattle.model.specs.Answers.{plain, word}
use Rattle.model.specs.Refusals.{rules_of}
use Rattle.model.specs.Opening.{Opening, opening_of, built_in_opening, open_refusal, opened}
use Rattle.model.specs.Call.{Words, words_of, hl3, broken, step, call}
use Rattle.model.specs.Run.{run, answers}
use Rattle.model.specs.Settle.{settle, plain_settle, action, settling, run_calls}
use Rattle.model.specs.RunFile.{row_given, RunText, file_bytes}
use Rattle.model.specs.Listing.{listing}

pub record Card : Type 0 where
  pub given : List ℕ
  pub wanted : List ℕ

-- the numbers of the answers to a list of calls on the hall of an opening
unfoldable pub numbers_of : Opening → List Words → List ℕ
numbers_of o ws = map (λ x. (plain x).number) (answers hl3 (opened o) ws)

-- is the set with mask b a quorum of n recorders? 1 or 0
unfoldable pub quorum_card : ℕ → ℕ → ℕ
quorum_card n b = elim (quorum built_in n (in_mask b)) [ true ↦ 1 | false ↦ 0 ]

-- "submit 700, label, send, place in view 1, receive, safe, confirm", at recorder 1
unfoldable pub up_to_confirm : List Words
up_to_confirm =
    words_of 1 1 700 0
    ∷ words_of 2 1 0 0
    ∷ words_of 3 1 0 0
    ∷ words_of 7 1 1 0
    ∷ words_of 8 1 0 0
    ∷ words_of 9 1 0 0
    ∷ words_of 10 1 0 0
    ∷ []

-- "N = 1, founders 1, and actions submit 700, .., confirm, deliver, deliver"
unfoldable pub listing_run : RunText
listing_run =
    record {
      opening = record { size = 1; founders = 1; third = 0; words = replicate 8 0 };
      actions = up_to_confirm ++ (words_of 11 1 0 0 ∷ words_of 11 1 0 0 ∷ []);
    }

-- the listing that 01 prints for it
unfoldable pub listing_text : List ℕ
listing_text =
    104 ∷ 97 ∷ 108 ∷ 108 ∷ 32 ∷ 49 ∷ 10 ∷  -- hall 1
    49 ∷ 32 ∷ 49 ∷ 32 ∷ 111 ∷ 107 ∷ 10 ∷  -- 1 1 ok
    50 ∷ 32 ∷ 50 ∷ 32 ∷ 111 ∷ 107 ∷ 10 ∷  -- 2 2 ok
    51 ∷ 32 ∷ 51 ∷ 32 ∷ 111 ∷ 107 ∷ 10 ∷  -- 3 3 ok
    52 ∷ 32 ∷ 55 ∷ 32 ∷ 111 ∷ 107 ∷ 10 ∷  -- 4 7 ok
    53 ∷ 32 ∷ 56 ∷ 32 ∷ 101 ∷ 110 ∷ 116 ∷ 114 ∷ 121 ∷ 32 ∷ 49 ∷ 46 ∷ 49 ∷ 46 ∷ 49 ∷ 32 ∷ 55 ∷ 48 ∷ 48 ∷ 10 ∷  -- 5 8 entry 1.1.1 700
    54 ∷ 32 ∷ 57 ∷ 32 ∷ 101 ∷ 110 ∷ 116 ∷ 114 ∷ 121 ∷ 32 ∷ 49 ∷ 46 ∷ 49 ∷ 46 ∷ 49 ∷ 32 ∷ 55 ∷ 48 ∷ 48 ∷ 10 ∷  -- 6 9 entry 1.1.1 700
    55 ∷ 32 ∷ 49 ∷ 48 ∷ 32 ∷ 111 ∷ 107 ∷ 10 ∷  -- 7 10 ok
    56 ∷ 32 ∷ 49 ∷ 49 ∷ 32 ∷ 102 ∷ 114 ∷ 111 ∷ 109 ∷ 32 ∷ 49 ∷ 32 ∷ 55 ∷ 48 ∷ 48 ∷ 10 ∷  -- 8 11 from 1 700
    57 ∷ 32 ∷ 49 ∷ 49 ∷ 32 ∷ 114 ∷ 101 ∷ 102 ∷ 117 ∷ 115 ∷ 101 ∷ 100 ∷ 32 ∷ 51 ∷ 56 ∷ 10 ∷  -- 9 11 refused 38
    101 ∷ 110 ∷ 100 ∷ 32 ∷ 56 ∷ 32 ∷ 49 ∷ 10 ∷  -- end 8 1
    []

-- "P the listing."
unfoldable pub listing_card : Card
listing_card = record { given = listing hl3 (file_bytes listing_run); wanted = listing_text }

-- "P N 0 and 9: 16; 8 opens."
unfoldable pub size_card : Card
size_card =
    record {
      given = open_refusal (built_in_opening 0 0) ∷ open_refusal (built_in_opening 9 0) ∷ open_refusal (built_in_opening 8 0) ∷ [];
      wanted = 16 ∷ 16 ∷ 0 ∷ [];
    }

-- "P N 3, founders 0: view 1 is {1, 2, 3}; founders 8: 16." But "The bench card for N = 3 and founders 0 now gives view 1
-- as {1}." (02, A8)
unfoldable pub founders_card : Card
founders_card =
    record {
      given = open_refusal (built_in_opening 3 8) ∷ open_refusal (built_in_opening 3 0) ∷ (opened (built_in_opening 3 0)).service.members 1;
      wanted = 16 ∷ 0 ∷ 1 ∷ [];
    }

-- "P N 3: {2, 3} no quorum, {1, 2} one. P N 4: {2, 3, 4} one, {3, 4} none."
unfoldable pub quorum_cards : Card
quorum_cards =
    record {
      given = quorum_card 3 6 ∷ quorum_card 3 3 ∷ quorum_card 4 14 ∷ quorum_card 4 12 ∷ [];
      wanted = 0 ∷ 1 ∷ 1 ∷ 0 ∷ [];
    }

-- the margin of the set with mask b among n recorders, as a word
unfoldable pub margin_card : ℕ → ℕ → ℕ
margin_card n b = word (margin built_in n (in_mask b))

-- "For N = 3, {2, 3} gives 0, {1, 2} gives 2 and the empty set gives -4." (02, A1) For N = 4, {2, 3, 4} gives 1 and {3, 4}
-- gives -1. The word of -1 is 4294967295.
unfoldable pub margin_cards : Card
margin_cards =
    record {
      given = margin_card 3 6 ∷ margin_card 3 3 ∷ margin_card 3 0 ∷ margin_card 4 14 ∷ margin_card 4 12 ∷ [];
      wanted = 0 ∷ 2 ∷ 4294967292 ∷ 1 ∷ 4294967295 ∷ [];
    }

-- eight vote words
unfoldable pub row_with : ℕ → ℕ → ℕ → ℕ → List ℕ
row_with v1 v2 v3 v4 = v1 ∷ v2 ∷ v3 ∷ v4 ∷ replicate 4 0

-- "It refuses with 41, directly after 16, a vote above 1,000, a vote other than 0 for a recorder above N, or a row whose votes
-- are all 0." (02, A4) A vote of 1,000 is taken, a recorder 1 without votes, one vote in the whole hall.
unfoldable pub row_card : Card
row_card =
    record {
      given =
          open_refusal (opening_of 3 0 (row_with 1001 1 1 0))
          ∷ open_refusal (opening_of 3 0 (row_with 2 1 1 1))
          ∷ open_refusal (opening_of 3 0 (row_with 0 0 0 0))
          ∷ open_refusal (opening_of 3 8 (row_with 0 0 0 0))
          ∷ open_refusal (opening_of 3 0 (row_with 1000 0 1000 0))
          ∷ open_refusal (opening_of 3 0 (row_with 0 0 1 0))
          ∷ [];
      wanted = 41 ∷ 41 ∷ 41 ∷ 16 ∷ 0 ∷ 0 ∷ [];
    }

-- the margins of {2, 3}, {1, 2}, {1} and the empty set in a hall of three with votes 5, 3 and 3 (02, A4): a view {2, 3} is
-- primary there
unfoldable pub site_card : Card
site_card =
    let votes = (opened (opening_of 3 0 (row_with 5 3 3 0))).votes in
    record {
      given = map (λ b. word (margin votes 3 (in_mask b))) (6 ∷ 3 ∷ 1 ∷ 0 ∷ []);
      wanted = 1 ∷ 5 ∷ 4294967295 ∷ 4294967285 ∷ [];
    }

-- "With 0 there the built-in row holds" (02, A4): for N = 3 the row that 0 gives and the one that 1 gives with these words
-- are the same, so that the two halls are one
unfoldable pub built_in_card : Card
built_in_card =
    record {
      given =
          row_given (record { size = 3; founders = 0; third = 0; words = row_with 0 0 0 0 })
          ++ row_given (record { size = 3; founders = 0; third = 1; words = row_with 2 1 1 0 });
      wanted = 2 ∷ 1 ∷ 1 ∷ 0 ∷ 0 ∷ 0 ∷ 0 ∷ 0 ∷ 2 ∷ 1 ∷ 1 ∷ 0 ∷ 0 ∷ 0 ∷ 0 ∷ 0 ∷ [];
    }

-- "P numbers 0 and 256: 14; 255 forms, then 255 again: 33." But "Number 256 on the bench cards now forms a view, and 14
-- remains for 0 alone." (02, A2) So does the greatest number, and again it is 33.
unfoldable pub number_card : Card
number_card =
    record {
      given =
          numbers_of (built_in_opening 3 0)
          (words_of 5 0 0 1
          ∷ words_of 5 0 255 1
          ∷ words_of 5 0 255 1
          ∷ words_of 5 0 256 1
          ∷ words_of 5 0 4294967295 1
          ∷ words_of 5 0 4294967295 1
          ∷ []);
      wanted = 14 ∷ 0 ∷ 33 ∷ 0 ∷ 0 ∷ 33 ∷ [];
    }

-- "The common log is promised over the whole longer range." (02, A2) One recorder forms and enters the view with the
-- greatest number and exchanges its summary there; an entry is submitted, labelled, sent, placed, received, safe and
-- confirmed.
unfoldable pub last_view_calls : List Words
last_view_calls =
    words_of 5 0 4294967295 1
    ∷ words_of 6 1 4294967295 0
    ∷ words_of 4 1 0 0
    ∷ words_of 7 1 4294967295 0
    ∷ words_of 8 1 0 0
    ∷ words_of 1 1 700 0
    ∷ words_of 2 1 0 0
    ∷ words_of 3 1 0 0
    ∷ words_of 7 1 4294967295 0
    ∷ words_of 8 1 0 0
    ∷ words_of 9 1 0 0
    ∷ words_of 9 1 0 0
    ∷ words_of 10 1 0 0
    ∷ []

-- the answers; the label's view, the highest primary; what the deliver then gives
unfoldable pub last_view_card : Card
last_view_card =
    let h = run hl3 (opened (built_in_opening 1 1)) last_view_calls in
    record {
      given =
          numbers_of (built_in_opening 1 1) last_view_calls
          ++ (h.entries.label_view 1 ∷ h.recorders.high 1 ∷ (plain (step hl3 h (words_of 11 1 0 0)).answer).values);
      wanted =
          0 ∷ 0 ∷ 0 ∷ 0 ∷ 0 ∷ 0 ∷ 0 ∷ 0 ∷ 0 ∷ 0 ∷ 0 ∷ 0 ∷ 0
          ∷ 4294967295 ∷ 4294967295 ∷ 3 ∷ 1 ∷ 700 ∷ 0 ∷ 0 ∷ 0 ∷ [];
    }

-- "Among the sources with the greatest highest primary, the one with the longest order shall now represent" (02, A3). An entry
-- that 2 submits in view 1 is received by 2 alone. Then 2 and 3, both with the highest primary 1, exchange their summaries
-- in view 2, which is not primary.
unfoldable pub healed_calls : List Words
healed_calls =
    words_of 1 2 700 0
    ∷ words_of 2 2 0 0
    ∷ words_of 3 2 0 0
    ∷ words_of 7 2 1 0
    ∷ words_of 8 2 0 0
    ∷ words_of 5 0 2 6
    ∷ words_of 6 2 2 0
    ∷ words_of 6 3 2 0
    ∷ words_of 4 2 0 0
    ∷ words_of 4 3 0 0
    ∷ words_of 7 2 2 0
    ∷ words_of 7 3 2 0
    ∷ words_of 8 2 0 0
    ∷ words_of 8 2 0 0
    ∷ words_of 8 3 0 0
    ∷ words_of 8 3 0 0
    ∷ []

-- the orders of 2 and 3 then, each after its length, by a choice of the representative
unfoldable pub healed_orders : Choice → List ℕ
healed_orders choice =
    let s = (run (rules_of choice) (opened (built_in_opening 3 7)) healed_calls).recorders in
    length (s.order 2) ∷ s.order 2 ++ (length (s.order 3) ∷ s.order 3)

-- the answers; by HL3's choice both have 2's order, the entry; by 01's both had 3's, which is empty
unfoldable pub longest_card : Card
longest_card =
    record {
      given = numbers_of (built_in_opening 3 7) healed_calls ++ (healed_orders chosen ++ healed_orders greatest_numbered);
      wanted =
          0 ∷ 0 ∷ 0 ∷ 0 ∷ 0 ∷ 0 ∷ 0 ∷ 0 ∷ 0 ∷ 0 ∷ 0 ∷ 0 ∷ 0 ∷ 0 ∷ 0 ∷ 0
          ∷ 1 ∷ 1 ∷ 1 ∷ 1 ∷ 0 ∷ 0 ∷ [];
    }

-- "P enter 2 from 3: 36."
unfoldable pub enter_card : Card
enter_card =
    record {
      given = numbers_of (built_in_opening 3 0) (words_of 5 0 2 1 ∷ words_of 5 0 3 1 ∷ words_of 6 1 3 0 ∷ words_of 6 1 2 0 ∷ []);
      wanted = 0 ∷ 0 ∷ 0 ∷ 36 ∷ [];
    }

-- "P enter a new one-member view, submit, label: 37; after its summary is sent, placed and received: labelled."
unfoldable pub label_calls : List Words
label_calls =
    words_of 5 0 2 1
    ∷ words_of 6 1 2 0
    ∷ words_of 1 1 5 0
    ∷ words_of 2 1 0 0
    ∷ words_of 4 1 0 0
    ∷ words_of 7 1 2 0
    ∷ words_of 8 1 0 0
    ∷ words_of 2 1 0 0
    ∷ []

-- the answers, then the view and sequence number of the entry's label
unfoldable pub label_card : Card
label_card =
    let es = (run hl3 (opened (built_in_opening 3 0)) label_calls).entries in
    record {
      given = numbers_of (built_in_opening 3 0) label_calls ++ (es.label_view 1 ∷ es.label_seq 1 ∷ []);
      wanted = 0 ∷ 0 ∷ 0 ∷ 37 ∷ 0 ∷ 0 ∷ 0 ∷ 0 ∷ 2 ∷ 1 ∷ [];
    }

-- "P kind 12 on broken bytes: 11." (and kind 1 there: 31) "P kind 6, R 9, A 0: 12."
unfoldable pub order_card : Card
order_card =
    record {
      given =
          (plain (call hl3 broken (words_of 12 0 0 0)).answer).number
          ∷ (plain (call hl3 broken (words_of 1 0 0 0)).answer).number
          ∷ numbers_of (built_in_opening 3 0) (words_of 6 9 0 0 ∷ []);
      wanted = 11 ∷ 31 ∷ 12 ∷ [];
    }

-- "P safe before the other member received: 39."
unfoldable pub safe_card : Card
safe_card =
    record {
      given =
          numbers_of (built_in_opening 2 3)
          (words_of 1 1 5 0 ∷ words_of 2 1 0 0 ∷ words_of 3 1 0 0 ∷ words_of 7 1 1 0 ∷ words_of 8 1 0 0 ∷ words_of 9 1 0 0 ∷ []);
      wanted = 0 ∷ 0 ∷ 0 ∷ 0 ∷ 0 ∷ 39 ∷ [];
    }

-- what a settle answers after these calls: the count, or the refusal's number
unfoldable pub settle_numbers : Opening → List Words → List ℕ
settle_numbers o ws = let x = plain_settle (settle hl3 (run hl3 (opened o) ws)) in x.number ∷ x.values

-- one entry at each of three recorders
unfoldable pub three_submits : List Words
three_submits = words_of 1 1 5 0 ∷ words_of 1 2 6 0 ∷ words_of 1 3 7 0 ∷ []

-- a settle (02, A5): one entry in a hall of one recorder takes 7 steps, one at each of three recorders 45, and 36 in a new view
-- of 1 and 2; a hall in which nothing was submitted is settled; view 3 = {2, 3} after view 2 = {1, 2} is not primary
unfoldable pub settle_card : Card
settle_card =
    record {
      given =
          settle_numbers (built_in_opening 1 1) (words_of 1 1 5 0 ∷ [])
          ++ (settle_numbers (built_in_opening 3 7) three_submits
          ++ (settle_numbers (built_in_opening 3 7) (three_submits ++ (words_of 5 0 2 3 ∷ []))
          ++ (settle_numbers (built_in_opening 3 7) []
          ++ settle_numbers (built_in_opening 3 7) (words_of 5 0 2 3 ∷ words_of 5 0 3 6 ∷ []))));
      wanted = 0 ∷ 7 ∷ 0 ∷ 45 ∷ 0 ∷ 36 ∷ 0 ∷ 0 ∷ 42 ∷ 0 ∷ [];
    }

-- "Commissioning now begins with one recorder, and others join by a view." (02, A8) Recorder 1 of three is alone in view 1,
-- which is not primary, and takes its entry up to the confirm; then view 2 is formed, in which the others join.
unfoldable pub join_calls : List Words
join_calls = up_to_confirm ++ (words_of 5 0 2 7 ∷ [])

-- the answers: the entry joined no order, so that there is none to confirm; a settle of view 2 takes 33 steps; then each
-- recorder has delivered one entry (its report mark is 2)
unfoldable pub join_card : Card
join_card =
    let o = built_in_opening 3 0 in
    let h = run_calls hl3 (opened o) (map action join_calls ++ (settling ∷ [])) in
    record {
      given = numbers_of o join_calls ++ (settle_numbers o join_calls ++ map h.recorders.report (1 ∷ 2 ∷ 3 ∷ []));
      wanted = 0 ∷ 0 ∷ 0 ∷ 0 ∷ 0 ∷ 0 ∷ 38 ∷ 0 ∷ 0 ∷ 33 ∷ 2 ∷ 2 ∷ 2 ∷ [];
    }

unfoldable pub cards : List Card
cards =
    listing_card
    ∷ size_card
    ∷ founders_card
    ∷ quorum_cards
    ∷ margin_cards
    ∷ row_card
    ∷ site_card
    ∷ built_in_card
    ∷ number_card
    ∷ last_view_card
    ∷ longest_card
    ∷ enter_card
    ∷ label_card
    ∷ order_card
    ∷ safe_card
    ∷ settle_card
    ∷ join_card
    ∷ []
