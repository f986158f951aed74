-- The whole word is written. Assumes nothing.
use mathlib.Core.Path.{refl, ap, ◌∙◌}
use lib.Seq.{sets, take-length}
use Rattle.text.proofs.put_word.Goals as goal

pub returns : goal.returns
returns c =
    let a = c.args in
    record {
      bytes = c.put_bytes.ensures ∙ ap (sets a.out.now a.at) (take-length a.word.now);
      next = refl;
    }
