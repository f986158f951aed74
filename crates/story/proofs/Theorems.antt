-- The theorems of the text form (specs/Stories). Assumes nothing.
use Rattle.story.specs.Stories.{TellsBack, TellsAgain, FileTells}
use Rattle.story.proofs.StoriesLaws.{run-back}
use Rattle.story.proofs.RangesLaws.{read-tellable}
use Rattle.story.proofs.FilesLaws.{file-tellable}

-- what is printed of a run reads back as that run
pub tells-back : TellsBack
tells-back = record { back = run-back }

-- what a text reads as, printed and read again, is the same run
pub tells-again : TellsAgain
tells-again = record { again = λ bs x e. run-back x (read-tellable bs x e) }

-- every run of a run file has a text
pub file-tells : FileTells
file-tells = record { file = λ bs x h e. run-back x (file-tellable bs x h e) }
