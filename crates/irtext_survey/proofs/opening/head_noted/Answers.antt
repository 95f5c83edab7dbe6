use Rattle.std.proofs.Common.{◌∷◌, []}
use Rattle.irtext_survey.specs.Walk.{arguments_read}
use Rattle.irtext_survey.specs.declared.notes.Mention.TheVariants.{DefinesLabel}
use Rattle.irtext_survey.proofs.Mentions.{named_first, named_last, notes_then, on_then}
use Rattle.irtext_survey.proofs.opening.head_noted.Goals as goal

pub arguments_noted-requires : goal.arguments_noted-requires
arguments_noted-requires g c = named_first c.args.names.now.names (arguments_read c.args.head.now.arguments) ((DefinesLabel, c.args.head.now.label) ∷ []) c.requires

pub name_noted-requires : goal.name_noted-requires
name_noted-requires g c = named_last c.args.names.now.names (arguments_read c.args.head.now.arguments) ((DefinesLabel, c.args.head.now.label) ∷ []) c.requires

pub returns : goal.returns
returns g c = on_then c.name_noted.result (λ n. notes_then c.args.names.now.names c.args.name.now (arguments_read c.args.head.now.arguments) ((DefinesLabel, c.args.head.now.label) ∷ []) c.args.book.now c.arguments_noted.new.book c.name_noted.new.book c.in_default.ensures n) c.name_noted.ensures
