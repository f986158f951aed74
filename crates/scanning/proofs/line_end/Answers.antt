-- The line ends after its byte 10, or where the text ends. Assumes nothing.
use Rattle.std.proofs.Common.{rules}
use Rattle.scanning.proofs.FieldsAt.{line-found, line-unfound}
use Rattle.scanning.proofs.line_end.Goals as goal

pub returns-then-end-text : goal.returns-then-end-text
returns-then-end-text c =
    let e = c.find.ensures in
    line-found c.args.text.now c.args.at c.find.result c.requires (record { within = e.within; passed = λ k p. let q = e.passed k p in search rules; stops = λ h. let q = e.stops h in search rules }) c.if-end-text.true

pub returns-else-end-text : goal.returns-else-end-text
returns-else-end-text c =
    let e = c.find.ensures in
    line-unfound c.args.text.now c.args.at c.find.result c.requires (record { within = e.within; passed = λ k p. let q = e.passed k p in search rules; stops = λ h. let q = e.stops h in search rules }) c.if-end-text.false
