-- Each arm writes the text of its use. Assumes nothing.
use Rattle.std.proofs.Common.{◌≢◌}
use mathlib.Core.Path.{◌≡◌, refl, sym, ap, ◌∙◌}
use Prim.Native.Nat.{ℕ}
use Rattle.model.specs.Listing.{decimal}
use Rattle.words.specs.declared.Use.{Use}
use Rattle.words.specs.declared.Use.TheVariants.{Unused, Word, Recorder, Number, Set}
use Rattle.words.specs.Words.{use_of}
use Rattle.text.specs.Fields.{number_text}
use Rattle.story.specs.Printing.{arg_fields}
use Rattle.printing.specs.Lines.{spaced}
use Rattle.text.proofs.TextLaws.{wrote-length}
use Rattle.printing.proofs.FieldsLaws.{room_as, wrote_as, wrote_none, spaced-one}
use Rattle.printing.proofs.ActionLaws.{arg-unused, arg-set}
use Rattle.printing.proofs.put_arg.Goals as goal

-- any word, a recorder and a view number are told as numbers
as_number : (u : Use) (w : ℕ) → u ≢ Unused → u ≢ Set → spaced (arg_fields (use_of u) w) ≡ number_text w
unfolding use_of arg_fields
as_number Unused w k l = absurd (k refl)
as_number Word w k l = spaced-one (decimal w)
as_number Recorder w k l = spaced-one (decimal w)
as_number Number w k l = spaced-one (decimal w)
as_number Set w k l = absurd (l refl)

pub put_set-requires : goal.put_set-requires
unfolding use_of
put_set-requires c = room_as (ap (λ u. spaced (arg_fields (use_of u) c.args.w)) c.in-Set.is ∙ arg-set _) c.requires

pub put_number-requires : goal.put_number-requires
put_number-requires c = room_as (as_number c.args.u c.args.w c.in_default.not-Unused c.in_default.not-Set) c.requires

pub returns-in-Unused : goal.returns-in-Unused
unfolding use_of
returns-in-Unused c = wrote_as (sym (ap (λ u. spaced (arg_fields (use_of u) c.args.w)) c.in-Unused.is ∙ arg-unused _)) (wrote_none _ _)

pub returns-in-Set : goal.returns-in-Set
unfolding use_of
returns-in-Set c = wrote_as (sym (ap (λ u. spaced (arg_fields (use_of u) c.args.w)) c.in-Set.is ∙ arg-set _)) c.put_set.ensures

pub shape_of-out-in-Set : goal.shape_of-out-in-Set
shape_of-out-in-Set c = wrote-length (returns-in-Set c)

pub returns-in_default : goal.returns-in_default
returns-in_default c = wrote_as (sym (as_number c.args.u c.args.w c.in_default.not-Unused c.in_default.not-Set)) c.put_number.ensures

pub shape_of-out-in_default : goal.shape_of-out-in_default
shape_of-out-in_default c = wrote-length (returns-in_default c)
