-- One name under which all definitions of the model compute: `unfolding computing` opens them for a computed fact.
-- Assumes nothing.
use Prim.Native.Nat.{ℕ}
use Rattle.base.specs.Lists
use Rattle.base.specs.Update
use Rattle.base.specs.Chains
use Rattle.base.specs.Numbers
use Rattle.quorum.specs.Sets
use Rattle.quorum.specs.Votes
use Rattle.model.specs.Service
use Rattle.model.specs.Ordering
use Rattle.model.specs.Kinds
use Rattle.model.specs.Answers
use Rattle.model.specs.Refusals
use Rattle.model.specs.Actions
use Rattle.model.specs.Opening
use Rattle.model.specs.Page
use Rattle.model.specs.Call
use Rattle.model.specs.Run
use Rattle.model.specs.Settle
use Rattle.model.specs.RunFile
use Rattle.model.specs.Listing

unfoldable pub computing : ℕ
unfolding Lists.has Lists.filter Update.upd Update.upd₂ Numbers.up_to Sets.in_mask Sets.members Sets.mask Lists.rising Lists.count Votes.votes Votes.total Votes.margin Votes.quorum Votes.share Votes.built_in Votes.row_of Votes.built_in_row Votes.small_row Votes.no_votes Votes.wrong_row Lists.all Lists.any Lists.count_of Lists.greatest Lists.nth Lists.rest Lists.is_empty Numbers.within Chains.refuse Chains.◌⨾◌ Service.exceeds_created Service.createview Service.is_created Service.is_member Service.above_current Service.newview Service.gpsnd Service.has_pending Service.vs_order Service.queued_at Service.can_receive Service.gprcv Service.has_unsafe Service.received_by_all Service.safe Ordering.label_before Ordering.is_labelled Ordering.numbers Ordering.waiting Ordering.label_exists Ordering.knowncontent Ordering.maxprimary Ordering.reps Ordering.shortorder Ordering.least Ordering.in_label_order Ordering.missing Ordering.fullorder Ordering.maxnextconfirm Ordering.label_entry Ordering.labelled Ordering.sent_entry Ordering.summary_of Ordering.sent_summary Ordering.entered Ordering.received_entry Ordering.heard_summary Ordering.is_collect Ordering.completes Ordering.built_order Ordering.built_high Ordering.established Ordering.received_summary Ordering.safe_entry Ordering.heard_sources Ordering.safe_summary Ordering.confirmed Ordering.reported Ordering.greatest_numbered Ordering.longest_reps Ordering.longest_order Ordering.chosen Kinds.kinds Kinds.kind_of Kinds.uses Kinds.wrong_recorder Kinds.stray_word Kinds.wrong_number Kinds.wrong_set Kinds.input_refusal Answers.word Answers.signed Answers.plain Answers.accepted Refusals.holds_quorum Refusals.margin_of Refusals.is_primary Refusals.summaries_of Refusals.entries_full Refusals.views_full Refusals.not_above_formed Refusals.not_formed Refusals.not_member Refusals.not_above_current Refusals.no_view Refusals.is_normal Refusals.is_send Refusals.not_normal Refusals.cannot_label Refusals.not_send Refusals.none_waiting Refusals.buffer_empty Refusals.none_pending Refusals.none_to_receive Refusals.none_to_notice Refusals.order_ends Refusals.all_reported Refusals.not_received_by_all Refusals.order_at Refusals.not_safe Refusals.not_known Refusals.buffer_full Refusals.pending_full Refusals.queue_full Refusals.order_full Refusals.built_too_long Refusals.no_room_to_receive Refusals.sequence_full Refusals.summary_place_full Refusals.new_label_exists Refusals.to_receive Refusals.to_notice Refusals.buffer_head Refusals.state_refusal Actions.do_submit Actions.do_label Actions.do_send_entry Actions.do_send_summary Actions.do_form Actions.do_enter Actions.do_place Actions.content_of Actions.do_receive Actions.do_notice Actions.do_confirm Actions.do_deliver Actions.perform Actions.refusal Actions.act Opening.wrong_opening Opening.open_refusal Opening.founder_mask Opening.founder_set Opening.no_entries Opening.blank_summary Opening.no_summaries Opening.first_view Opening.open_service Opening.open_recorders Opening.open_hall Opening.opened Page.phase_number Page.asked_entry Page.asked_field Page.page_of Page.page_refusal Page.page Page.plain_page Call.hl3 Call.step Call.call Run.run Run.answers Run.accepts Run.collect Run.place_of Run.item_of Run.items_from Run.submitted Run.labelled_at Run.delivered Run.deliver_answers Run.of_items Run.label_of Run.order_of Run.confirmed_of Settle.greatest_view Settle.cannot_settle Settle.settle_kinds Settle.settle_call Settle.calls_under Settle.settle_calls Settle.is_in_view Settle.tried Settle.turn Settle.turn_of Settle.and_then Settle.settle_from Settle.settle Settle.calls_taken Settle.plain_settle Settle.stands_for Settle.calls_of Settle.run_calls RunFile.max_file RunFile.max_actions RunFile.word_at RunFile.word_bytes RunFile.block_at RunFile.block_bytes RunFile.blocks_at RunFile.blocks_bytes RunFile.has_votes RunFile.row_given RunFile.opening_in RunFile.opening_length RunFile.distance RunFile.words_at RunFile.words_bytes RunFile.votes_at RunFile.opening_at RunFile.opening_bytes RunFile.trailer_of RunFile.run_part RunFile.broken_file RunFile.read_text RunFile.read_refusal RunFile.read_file RunFile.file_bytes RunFile.write_refusal RunFile.write_file Listing.ok-word Listing.refused-word Listing.entry-word Listing.summary-word Listing.from-word Listing.hall-word Listing.end-word Listing.digits Listing.decimal Listing.fields_after Listing.line Listing.label_text Listing.answer_fields Listing.action_line Listing.end_line Listing.action_lines Listing.refused_line Listing.run_lines Listing.listing Actions.payload_of Opening.blank_payload
computing = 0
