-- The field stands after the blanks, up to its end. Assumes nothing.
use Rattle.std.proofs.Common.{rules, ◌+◌}
use Rattle.scanning.proofs.FieldsAt.{spans, skips, ends}
use Rattle.scanning.proofs.next_field.Goals as goal

pub returns : goal.returns
returns c =
    let a = c.args in
    let text = a.text.now in
    let d = c.find.ensures in
    let e = c.find-2.ensures in
    let s = skips text a.at c.find.result c.requires (record { within = d.within; passed = λ k p. let q = d.passed k p in search rules; stops = λ h. let q = d.stops h in search rules }) in
    spans text a.at _ _ s (ends text (a.at + c.find.result) c.find-2.result s.within (record { within = e.within; passed = λ k p. let q = e.passed k p in search rules; stops = λ h. let q = e.stops h in search rules }))
