-- A refused call on a line leaves every lent slice. Assumes nothing.
use Rattle.calls.proofs.Refused.{lent-keeps, only-read}
use Rattle.story.specs.Lent.{print_lent, action_lent, opening_lent, parse_lent}
use Rattle.story.specs.Kept.{LinesKeep}

pub lines_keep : LinesKeep
unfolding print_lent action_lent opening_lent parse_lent
lines_keep =
    record {
      action_text = λ w t out. (lent-keeps _ t _ out).0;
      action_answer = λ w t out. (lent-keeps _ t _ out).1;
      opening_text = λ o t out. (lent-keeps _ t _ out).0;
      opening_answer = λ o t out. (lent-keeps _ t _ out).1;
      parse_text = λ t at out. only-read _ t out;
      parse_answer = λ t at out. (lent-keeps _ t t out).1;
    }
