-- Each arm writes the text of its case. Assumes nothing.
use Rattle.answer.specs.Meaning.{content_meaning}
use Rattle.model.specs.Listing.{answer_fields}
use Rattle.listing.proofs.put_message.Goals as goal

pub put_entry-requires : goal.put_entry-requires
unfolding content_meaning answer_fields
put_entry-requires c = rw c.in-Entry.is at c.requires

pub put_summary-requires : goal.put_summary-requires
unfolding content_meaning answer_fields
put_summary-requires c = rw c.in-Summary.is at c.requires

pub returns-in-Entry : goal.returns-in-Entry
unfolding content_meaning answer_fields
returns-in-Entry c = rw c.in-Entry.is c.put_entry.ensures

pub returns-in-Summary : goal.returns-in-Summary
unfolding content_meaning answer_fields
returns-in-Summary c = rw c.in-Summary.is c.put_summary.ensures
