-- Assumes nothing.
use Rattle.std.proofs.Common.{◌∙◌}
use Rattle.runfile.specs.Answers.{action_words}
use Rattle.story.specs.Keywords.{raw_number}
use Rattle.parsing.proofs.LinesAt.{told-last, no-action, raw-none, raw-all}
use Rattle.parsing.proofs.raw_action.Goals as goal

pub returns-in_err-x : goal.returns-in_err-x
returns-in_err-x c = no-action _ raw_number c.from_residual.ensures ∙ raw-none c.args.text.now _ c.in_err-x.ensures

pub returns : goal.returns
returns c =
    rw (c.then_some.ensures, c.is_over.ensures) (told-last _ _ raw_number)
    ∙ raw-all c.args.text.now _ (action_words c.in_ok-x.x) c.in_ok-x.at c.in_ok-x.ensures
