-- How many values an answer has. Assumes nothing.
use mathlib.Core.Path.{◌≡◌, refl}
use Rattle.std.specs.Prelude.{ℕ, Result, Ok, Err}
use lib.ListN.{length}
use Rattle.model.specs.Answers.{Content, Answer, message, refused, plain}
use Rattle.model.specs.Page.{PageAnswer, plain_page}
use Rattle.model.specs.declared.refusals.Refusal.{Refusal}
use Rattle.answer.specs.Meaning.{settled_meaning}

pub page-values : (x : PageAnswer) → length (plain_page x).values ≡ 13
unfolding plain_page
page-values (PageAnswer.shown x) = refl
page-values (PageAnswer.refused k) = refl

pub answer-values : (x : Answer) → length (plain x).values ≡ 6
unfolding plain
answer-values Answer.done = refl
answer-values (message q (Content.entry v s p x)) = refl
answer-values (message q (Content.summary k o c g)) = refl
answer-values (Answer.from q v) = refl
answer-values (refused k) = refl

pub settled-values : (x : Result ℕ Refusal) → length (settled_meaning x).values ≡ 1
settled-values (Ok n) = refl
settled-values (Err why) = refl
