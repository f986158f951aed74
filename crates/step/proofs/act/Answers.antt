-- Each kind's own call. Assumes nothing.
use mathlib.Core.Path.{ap}
use Rattle.model.specs.Kinds.{uses, submit, label, send_entry, send_summary, form, enter, place, receive, notice, confirm, deliver}
use Rattle.model.specs.KindNumbers.{kind_meaning}
use Rattle.step.proofs.Dispatch.{as_used, to}
use Rattle.step.proofs.act.Goals as goal

pub submit-requires : goal.submit-requires
unfolding uses as_used
submit-requires c = (to c.requires submit (ap kind_meaning c.in-Submit.is)).judged

pub label-requires : goal.label-requires
unfolding uses as_used
label-requires c = (to c.requires label (ap kind_meaning c.in-Label.is)).judged

pub send_entry-requires : goal.send_entry-requires
unfolding uses as_used
send_entry-requires c = (to c.requires send_entry (ap kind_meaning c.in-SendEntry.is)).judged

pub send_summary-requires : goal.send_summary-requires
unfolding uses as_used
send_summary-requires c = (to c.requires send_summary (ap kind_meaning c.in-SendSummary.is)).judged

pub form-requires : goal.form-requires
unfolding uses as_used
form-requires c = (to c.requires form (ap kind_meaning c.in-Form.is)).judged

pub enter-requires : goal.enter-requires
unfolding uses as_used
enter-requires c = (to c.requires enter (ap kind_meaning c.in-Enter.is)).judged

pub place_message-requires : goal.place_message-requires
unfolding uses as_used
place_message-requires c = (to c.requires place (ap kind_meaning c.in-Place.is)).judged

pub receive-requires : goal.receive-requires
unfolding uses as_used
receive-requires c = (to c.requires receive (ap kind_meaning c.in-Receive.is)).judged

pub notice-requires : goal.notice-requires
unfolding uses as_used
notice-requires c = (to c.requires notice (ap kind_meaning c.in-Notice.is)).judged

pub confirm-requires : goal.confirm-requires
unfolding uses as_used
confirm-requires c = (to c.requires confirm (ap kind_meaning c.in-Confirm.is)).judged

pub deliver-requires : goal.deliver-requires
unfolding uses as_used
deliver-requires c = (to c.requires deliver (ap kind_meaning c.in-Deliver.is)).judged

pub returns-in-Submit : goal.returns-in-Submit
unfolding uses as_used
returns-in-Submit c = (to c.requires submit (ap kind_meaning c.in-Submit.is)).done _ _ c.submit.ensures

pub returns-in-Label : goal.returns-in-Label
unfolding uses as_used
returns-in-Label c = (to c.requires label (ap kind_meaning c.in-Label.is)).done _ _ c.label.ensures

pub returns-in-SendEntry : goal.returns-in-SendEntry
unfolding uses as_used
returns-in-SendEntry c = (to c.requires send_entry (ap kind_meaning c.in-SendEntry.is)).done _ _ c.send_entry.ensures

pub returns-in-SendSummary : goal.returns-in-SendSummary
unfolding uses as_used
returns-in-SendSummary c = (to c.requires send_summary (ap kind_meaning c.in-SendSummary.is)).done _ _ c.send_summary.ensures

pub returns-in-Form : goal.returns-in-Form
unfolding uses as_used
returns-in-Form c = (to c.requires form (ap kind_meaning c.in-Form.is)).done _ _ c.form.ensures

pub returns-in-Enter : goal.returns-in-Enter
unfolding uses as_used
returns-in-Enter c = (to c.requires enter (ap kind_meaning c.in-Enter.is)).done _ _ c.enter.ensures

pub returns-in-Place : goal.returns-in-Place
unfolding uses as_used
returns-in-Place c = (to c.requires place (ap kind_meaning c.in-Place.is)).done _ _ c.place_message.ensures

pub returns-in-Receive : goal.returns-in-Receive
unfolding uses as_used
returns-in-Receive c = (to c.requires receive (ap kind_meaning c.in-Receive.is)).done _ _ c.receive.ensures

pub returns-in-Notice : goal.returns-in-Notice
unfolding uses as_used
returns-in-Notice c = (to c.requires notice (ap kind_meaning c.in-Notice.is)).done _ _ c.notice.ensures

pub returns-in-Confirm : goal.returns-in-Confirm
unfolding uses as_used
returns-in-Confirm c = (to c.requires confirm (ap kind_meaning c.in-Confirm.is)).done _ _ c.confirm.ensures

pub returns-in-Deliver : goal.returns-in-Deliver
unfolding uses as_used
returns-in-Deliver c = (to c.requires deliver (ap kind_meaning c.in-Deliver.is)).done _ _ c.deliver.ensures
