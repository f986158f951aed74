-- Each kind's own call. Assumes nothing.
use mathlib.Core.Path.{ap, ◌∙◌}
use Rattle.model.specs.Kinds.{uses, submit, label, send_entry, send_summary, form, enter, place, receive, notice, confirm, deliver}
use Rattle.model.specs.KindNumbers.{kind_meaning}
use Rattle.views.proofs.FormingLaws.{form-low}
use Rattle.step.proofs.Dispatch.{as_used, to}
use Rattle.step.proofs.act_refusal.Goals as goal

pub submit_refusal-requires : goal.submit_refusal-requires
unfolding uses as_used
submit_refusal-requires c = (to c.requires submit (ap kind_meaning c.in-Submit.is)).judged.holds

pub label_refusal-requires : goal.label_refusal-requires
unfolding uses as_used
label_refusal-requires c = (to c.requires label (ap kind_meaning c.in-Label.is)).judged

pub send_entry_refusal-requires : goal.send_entry_refusal-requires
unfolding uses as_used
send_entry_refusal-requires c = (to c.requires send_entry (ap kind_meaning c.in-SendEntry.is)).judged

pub send_summary_refusal-requires : goal.send_summary_refusal-requires
unfolding uses as_used
send_summary_refusal-requires c = (to c.requires send_summary (ap kind_meaning c.in-SendSummary.is)).judged

pub form_refusal-requires : goal.form_refusal-requires
unfolding uses as_used
form_refusal-requires c = let j = (to c.requires form (ap kind_meaning c.in-Form.is)).judged in (j.holds, form-low _ _ _ j)

pub enter_refusal-requires : goal.enter_refusal-requires
unfolding uses as_used
enter_refusal-requires c = (to c.requires enter (ap kind_meaning c.in-Enter.is)).judged

pub place_refusal-requires : goal.place_refusal-requires
unfolding uses as_used
place_refusal-requires c = (to c.requires place (ap kind_meaning c.in-Place.is)).judged

pub receive_refusal-requires : goal.receive_refusal-requires
unfolding uses as_used
receive_refusal-requires c = (to c.requires receive (ap kind_meaning c.in-Receive.is)).judged

pub notice_refusal-requires : goal.notice_refusal-requires
unfolding uses as_used
notice_refusal-requires c = (to c.requires notice (ap kind_meaning c.in-Notice.is)).judged

pub confirm_refusal-requires : goal.confirm_refusal-requires
unfolding uses as_used
confirm_refusal-requires c = (to c.requires confirm (ap kind_meaning c.in-Confirm.is)).judged

pub deliver_refusal-requires : goal.deliver_refusal-requires
unfolding uses as_used
deliver_refusal-requires c = (to c.requires deliver (ap kind_meaning c.in-Deliver.is)).judged

pub returns-in-Submit : goal.returns-in-Submit
unfolding uses as_used
returns-in-Submit c = c.submit_refusal.ensures c.args.r c.args.a ∙ (to c.requires submit (ap kind_meaning c.in-Submit.is)).number

pub returns-in-Label : goal.returns-in-Label
unfolding uses as_used
returns-in-Label c = c.label_refusal.ensures ∙ (to c.requires label (ap kind_meaning c.in-Label.is)).number

pub returns-in-SendEntry : goal.returns-in-SendEntry
unfolding uses as_used
returns-in-SendEntry c = c.send_entry_refusal.ensures ∙ (to c.requires send_entry (ap kind_meaning c.in-SendEntry.is)).number

pub returns-in-SendSummary : goal.returns-in-SendSummary
unfolding uses as_used
returns-in-SendSummary c = c.send_summary_refusal.ensures ∙ (to c.requires send_summary (ap kind_meaning c.in-SendSummary.is)).number

pub returns-in-Form : goal.returns-in-Form
unfolding uses as_used
returns-in-Form c = c.form_refusal.ensures ∙ (to c.requires form (ap kind_meaning c.in-Form.is)).number

pub returns-in-Enter : goal.returns-in-Enter
unfolding uses as_used
returns-in-Enter c = c.enter_refusal.ensures ∙ (to c.requires enter (ap kind_meaning c.in-Enter.is)).number

pub returns-in-Place : goal.returns-in-Place
unfolding uses as_used
returns-in-Place c = c.place_refusal.ensures ∙ (to c.requires place (ap kind_meaning c.in-Place.is)).number

pub returns-in-Receive : goal.returns-in-Receive
unfolding uses as_used
returns-in-Receive c = c.receive_refusal.ensures ∙ (to c.requires receive (ap kind_meaning c.in-Receive.is)).number

pub returns-in-Notice : goal.returns-in-Notice
unfolding uses as_used
returns-in-Notice c = c.notice_refusal.ensures ∙ (to c.requires notice (ap kind_meaning c.in-Notice.is)).number

pub returns-in-Confirm : goal.returns-in-Confirm
unfolding uses as_used
returns-in-Confirm c = c.confirm_refusal.ensures ∙ (to c.requires confirm (ap kind_meaning c.in-Confirm.is)).number

pub returns-in-Deliver : goal.returns-in-Deliver
unfolding uses as_used
returns-in-Deliver c = c.deliver_refusal.ensures ∙ (to c.requires deliver (ap kind_meaning c.in-Deliver.is)).number
