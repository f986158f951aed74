-- What the code's table says of a kind. Assumes nothing.
use Rattle.model.specs.Kinds as model
use Rattle.words.specs.declared.Use.{Use}
use Rattle.words.specs.declared.Use.TheVariants.{Unused, Word, Recorder, Number, Set}
use Rattle.words.specs.declared.Uses.{Uses}

-- the model's use of a word
unfoldable pub use_of : Use → model.Use
use_of Unused = model.unused
use_of Word = model.word
use_of Recorder = model.recorder
use_of Number = model.number
use_of Set = model.set

-- the model's row of a kind
unfoldable pub uses_of : Uses → model.Uses
uses_of u = record { r = use_of u.0; a = use_of u.1; b = use_of u.2 }
