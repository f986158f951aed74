-- Assumes nothing.
use Rattle.std.proofs.Common.{◌∙◌}
use Rattle.parsing.proofs.LinesAt.{opening-last, no-opening, opening-none, opening-one, opening-two, opening-all}
use Rattle.parsing.proofs.opening.Goals as goal

pub returns-in_err-size : goal.returns-in_err-size
returns-in_err-size c = no-opening _ c.from_residual.ensures ∙ opening-none c.args.text.now _ c.in_err-size.ensures

pub returns-in_err-founders : goal.returns-in_err-founders
returns-in_err-founders c =
    no-opening _ c.from_residual-in_err-founders.ensures
    ∙ opening-one c.args.text.now _ c.in_ok-size.size c.in_ok-size.at c.in_ok-size.ensures c.in_err-founders.ensures

pub returns-in_err-third : goal.returns-in_err-third
returns-in_err-third c =
    no-opening _ c.from_residual-in_err-third.ensures
    ∙ opening-two c.args.text.now _ c.in_ok-size.size c.in_ok-size.at c.in_ok-size.ensures
    c.in_ok-founders.founders c.in_ok-founders.at c.in_ok-founders.ensures c.in_err-third.ensures

pub returns : goal.returns
returns c =
    let v = c.in_ok-third in
    rw (c.then_some.ensures, c.is_over.ensures) (opening-last _ _)
    ∙ opening-all c.args.text.now _ c.in_ok-size.size c.in_ok-size.at c.in_ok-size.ensures
    c.in_ok-founders.founders c.in_ok-founders.at c.in_ok-founders.ensures v.third v.words v.at v.ensures
