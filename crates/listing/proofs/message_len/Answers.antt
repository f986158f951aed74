-- Each arm gives the length of its case. Assumes nothing.
use native.Mathlib.Omega.{arith}
use Rattle.model.specs.Payloads.{payload_meaning}
use Rattle.model.specs.Listing.{answer_fields}
use Rattle.answer.specs.Meaning.{content_meaning}
use Rattle.listing.proofs.LinesLaws.{length-entry, length-summary}
use Rattle.listing.proofs.message_len.Goals as goal

pub returns-in-Entry : goal.returns-in-Entry
unfolding content_meaning answer_fields
returns-in-Entry c =
    let e = c.in-Entry.e in
    rw c.in-Entry.is (omega (arith, length-entry e.view e.seq e.sender (payload_meaning e.payload)))

pub returns-in-Summary : goal.returns-in-Summary
unfolding content_meaning answer_fields
returns-in-Summary c =
    let s = c.in-Summary.s in
    rw c.in-Summary.is
    (omega (arith, length-summary c.args.m.source s.known s.order s.confirm s.high))
