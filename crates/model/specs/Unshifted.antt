-- "Operators dislike seeing entries shift on the unconfirmed part of the page after a split heals." (02, A3) What a call may do
-- to a recorder's order; that HL3's calls do no more is proved in proofs/Agreement/Unshifted.
-- Assumes nothing.
use Rattle.std.specs.Prelude.{ℕ, ◌<◌, ◌≡◌, ◌⊎◌, true}
use Rattle.base.specs.Lists.{has, Begins}
use Rattle.model.specs.Hall.{Hall}

-- a member of p's view has sent in it a summary with a greater highest primary than p's own
pub record Overtaken (h : Hall) (p : ℕ) : Type 0 where
  pub source : ℕ
  pub member : has (h.service.members (h.service.current p)) source ≡ true
  pub sent : h.summaries.sent source (h.service.current p) ≡ true
  pub higher : h.recorders.high p < (h.summaries.summary source (h.service.current p)).high

-- from h to h' each entry in p's order has kept its place, others at most follow; or p is overtaken
abbrev pub Unshifted : Hall → Hall → ℕ → Type 0
Unshifted h h' p = Begins (h.recorders.order p) (h'.recorders.order p) ⊎ Overtaken h p
