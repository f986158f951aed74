-- The byte of e. Assumes nothing.
use mathlib.Core.Path.{sym}
use borrow.Author.Rules.{rules}
use Rattle.codec.proofs.FlagsLaws.{set_of-at}
use Rattle.codec.proofs.has_flag.Goals as goal

pub returns : goal.returns
returns c = sym (set_of-at c.args.row.now c.args.e (search rules))
