-- By the first word. Assumes nothing.
use Rattle.std.proofs.Common.{◌≡◌, drop, None, Some, sym, ap, refl, rules, arith, ◌∙◌}
use Rattle.std.specs.Option.{MatchOption, unwrap_or}
use Rattle.model.specs.KindNumbers.{kind_number}
use Rattle.story.specs.Fields.{fields_in}
use Rattle.story.specs.Parsing.{line_from}
use Rattle.scanning.specs.declared.FirstWord.{FirstWord}
use Rattle.scanning.specs.Scanned.{first_number}
use Rattle.parsing.specs.declared.Line.TheVariants as line
use Rattle.parsing.specs.Reading.{line_meaning}
use Rattle.parsing.proofs.LinesAt.{line-hall, line-raw, line-kind, line-other, action-line, opening-line}
use Rattle.parsing.proofs.line_from.Goals as goal
use Rattle.parsing.proofs.line_from.Goals.{in-Kind, in-Raw, in-Hall, in-Other}

pub returns : goal.returns
returns c =
    let fs = fields_in (drop c.args.at c.args.text.now) in
    ap line_meaning c.unwrap_or.ensures
    ∙ elim c.match-first.branch [
      | in-Kind w ↦
          let m : MatchOption w.kind_action.result (w.map-line.result ≡ None) (λ x. w.map-line.result ≡ Some (line.Action x)) = search rules in
          (λ i. line_meaning (unwrap_or (w.line-is i) (line.Wrong ((c.number.ensures ∙ ap first_number w.first-is) i))))
          ∙ action-line w.kind_action.result w.map-line.result (kind_number w.in-Kind.k) m
          ∙ w.kind_action.ensures
          ∙ sym (line-kind w.in-Kind.k fs)
          ∙ ap (λ (f : FirstWord). line_from (first_number f) fs) (sym w.in-Kind.is)
      | in-Raw w ↦
          let m : MatchOption w.raw_action.result (w.map-line-in-Raw.result ≡ None) (λ x. w.map-line-in-Raw.result ≡ Some (line.Action x)) = search rules in
          (λ i. line_meaning (unwrap_or (w.line-is i) (line.Wrong ((c.number.ensures ∙ ap first_number (w.first-is ∙ w.in-Raw.is)) i))))
          ∙ action-line w.raw_action.result w.map-line-in-Raw.result 254 m
          ∙ w.raw_action.ensures
          ∙ sym (line-raw 254 fs (λ e. omega arith) refl)
          ∙ ap (λ (f : FirstWord). line_from (first_number f) fs) (sym w.in-Raw.is)
      | in-Hall w ↦
          let m : MatchOption w.opening.result (w.map-line-in-Hall.result ≡ None) (λ x. w.map-line-in-Hall.result ≡ Some (line.Opening x)) = search rules in
          (λ i. line_meaning (unwrap_or (w.line-is i) (line.Wrong ((c.number.ensures ∙ ap first_number (w.first-is ∙ w.in-Hall.is)) i))))
          ∙ opening-line w.opening.result w.map-line-in-Hall.result m
          ∙ w.opening.ensures
          ∙ sym (line-hall 255 fs refl)
          ∙ ap (λ (f : FirstWord). line_from (first_number f) fs) (sym w.in-Hall.is)
      | in-Other w ↦
          (λ i. line_meaning (unwrap_or (w.line-is i) (line.Wrong ((c.number.ensures ∙ ap first_number (w.first-is ∙ w.in-Other.is)) i))))
          ∙ line-other fs
          ∙ ap (λ (f : FirstWord). line_from (first_number f) fs) (sym w.in-Other.is)
    ]
