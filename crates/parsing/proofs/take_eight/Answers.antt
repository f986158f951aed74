-- Assumes nothing.
use Rattle.runfile.specs.Answers.{action_words}
use Rattle.parsing.proofs.LinesAt.{eight-none, eight-one, eight-all}
use Rattle.parsing.proofs.take_eight.Goals as goal

pub returns-in_err-x : goal.returns-in_err-x
returns-in_err-x c = rw c.from_residual.ensures (eight-none c.args.text.now _ c.in_err-x.ensures)

pub returns-in_err-y : goal.returns-in_err-y
returns-in_err-y c =
    rw c.from_residual-in_err-y.ensures
    (eight-one c.args.text.now _ (action_words c.in_ok-x.x) c.in_ok-x.at c.in_ok-x.ensures c.in_err-y.ensures)

pub returns : goal.returns
returns c =
    eight-all c.args.text.now _ (action_words c.in_ok-x.x) c.in_ok-x.at c.in_ok-x.ensures (action_words c.in_ok-y.y) c.in_ok-y.at c.in_ok-y.ensures
