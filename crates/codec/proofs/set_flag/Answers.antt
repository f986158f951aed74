-- The byte of e is 1. Assumes nothing.
use borrow.Author.Rules.{rules}
use Rattle.codec.proofs.FlagsLaws.{set_of-put}
use Rattle.codec.proofs.set_flag.Goals as goal

pub returns : goal.returns
returns c = set_of-put c.args.row.now c.args.e (search rules) (search rules)
