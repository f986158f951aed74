-- Each arm writes the text of its case. Assumes nothing.
use Rattle.model.specs.Listing.{fields_after, answer_fields, ok-word}
use Rattle.listing.proofs.put_taken.Goals as goal

pub put_word-requires : goal.put_word-requires
unfolding answer_fields fields_after ok-word
put_word-requires c = rw c.in-Done.is at c.requires

pub put_message-requires : goal.put_message-requires
unfolding answer_fields
put_message-requires c = rw c.in-Message.is at c.requires

pub put_sent-requires : goal.put_sent-requires
unfolding answer_fields
put_sent-requires c = rw c.in-From.is at c.requires

pub returns-in-Done : goal.returns-in-Done
unfolding answer_fields fields_after ok-word
returns-in-Done c = rw c.in-Done.is c.put_word.ensures

pub returns-in-Message : goal.returns-in-Message
unfolding answer_fields
returns-in-Message c = rw c.in-Message.is c.put_message.ensures

pub returns-in-From : goal.returns-in-From
unfolding answer_fields
returns-in-From c = rw c.in-From.is c.put_sent.ensures
