-- The P cards hold, and what 02 names: one proof over their list, computed. Assumes nothing.
use mathlib.Core.Path.{◌≡◌, refl}
use mathlib.Core.List.{map}
use Rattle.model.specs.Cards.{numbers_of, quorum_card, up_to_confirm, listing_run, listing_text, listing_card, size_card, founders_card, quorum_cards, margin_card, margin_cards, row_with, row_card, site_card, built_in_card, number_card, last_view_calls, last_view_card, healed_calls, healed_orders, longest_card, enter_card, label_calls, label_card, order_card, safe_card, settle_numbers, three_submits, settle_card, join_calls, join_card, cards}
use Rattle.model.proofs.Computing.{computing}

-- every card is as 01 or 02 says
pub cards-hold : map (λ c. c.given) cards ≡ map (λ c. c.wanted) cards
unfolding computing numbers_of quorum_card up_to_confirm listing_run listing_text listing_card size_card founders_card quorum_cards margin_card margin_cards row_with row_card site_card built_in_card number_card last_view_calls last_view_card healed_calls healed_orders longest_card enter_card label_calls label_card order_card safe_card settle_numbers three_submits settle_card join_calls join_card cards
cards-hold = refl
