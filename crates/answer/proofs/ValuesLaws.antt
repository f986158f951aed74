-- The number of an answer that is taken is 0. Assumes nothing.
use mathlib.Core.Path.{◌≡◌, refl}
use Rattle.model.specs.Answers.{plain}
use Rattle.answer.specs.Meaning.{taken, content_meaning}
use Rattle.answer.specs.declared.Content.{Content}
use Rattle.answer.specs.declared.Answer.{Answer}

pub taken-number : (x : Answer) → 0 ≡ (plain (taken x)).number
unfolding plain content_meaning
taken-number Answer.Done = refl
taken-number (Answer.Message m) = by-content m.content
  where
    by-content : (y : Content) → 0 ≡ (plain (taken (Answer.Message (record { source = m.source; content = y })))).number
    by-content (Content.Entry e) = refl
    by-content (Content.Summary s) = refl
taken-number (Answer.From s) = refl
