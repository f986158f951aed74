-- The words of the code are those of the text form. Assumes nothing.
use Rattle.std.proofs.Common.{rules}
use Rattle.model.specs.Listing.{summary-word}
use Rattle.story.specs.Keywords.{kind_word, kind_words, submit-word, label-word, send-word, form-word, enter-word}
use Rattle.story.specs.Keywords.{place-word, receive-word, safe-word, confirm-word, deliver-word}
use Rattle.story.proofs.kind_word.Goals as goal

pub returns : goal.returns
unfolding kind_words submit-word label-word send-word summary-word form-word enter-word
    place-word receive-word safe-word confirm-word deliver-word kind_word
returns c = search rules
