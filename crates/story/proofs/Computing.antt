-- One name under which all definitions of the text form compute: `unfolding computing` opens them for a computed fact.
-- Assumes nothing.
use Prim.Native.Nat.{ℕ}
use Rattle.base.specs.Lists
use Rattle.base.specs.Numbers
use Rattle.codec.specs.Bytes
use Rattle.quorum.specs.Sets as Masks
use Rattle.model.specs.Kinds
use Rattle.model.specs.Listing
use Rattle.story.specs.Fields
use Rattle.story.specs.Numbers as Decimals
use Rattle.story.specs.Sets
use Rattle.story.specs.Keywords
use Rattle.story.specs.Printing
use Rattle.story.specs.Parsing
use Rattle.story.specs.Stories

unfoldable pub computing : ℕ
unfolding Lists.rest Lists.is_empty Lists.any Lists.all Numbers.within Numbers.numbers Bytes.same_bytes Masks.in_mask Kinds.kinds Kinds.kind_of Kinds.uses Listing.hall-word Listing.summary-word Listing.digits Listing.decimal Listing.fields_after Listing.line Fields.is_blank Fields.is_end Fields.is_break Fields.breaks Fields.onto Fields.fields_in Fields.first_field Fields.line_length Decimals.goes_on Decimals.digits_from Decimals.number_of Sets.member_text Sets.members_text Sets.set_text Sets.joins Sets.members_from Sets.set_from Sets.set_of Keywords.submit-word Keywords.label-word Keywords.send-word Keywords.form-word Keywords.enter-word Keywords.place-word Keywords.receive-word Keywords.safe-word Keywords.confirm-word Keywords.deliver-word Keywords.kind_words Keywords.kind_word Keywords.raw_word Keywords.founders-word Keywords.whole_word Keywords.votes-word Keywords.search Keywords.word_number Printing.can_tell Printing.has_line Printing.arg_fields Printing.kind_fields Printing.raw_fields Printing.action_text Printing.founders_fields Printing.votes_fields Printing.opening_text Printing.tell_refusal Parsing.take_field Parsing.take_word Parsing.take_four Parsing.kind_line Parsing.raw_line Parsing.founders_of Parsing.take_founders Parsing.take_eight Parsing.take_votes Parsing.opening_line Parsing.line_from Parsing.line_of Stories.actions_text Stories.story_of Stories.read_lines Stories.lines_in Stories.and_then Stories.actions_in Stories.story_refusal Stories.judged Stories.story_in Stories.read_story
computing = 0
