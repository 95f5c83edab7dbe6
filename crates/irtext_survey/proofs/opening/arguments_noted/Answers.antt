use Rattle.std.proofs.Common.{◌∷◌, [], take, sym, subst, arith}
use Rattle.irtext_survey.specs.Walk.{Notes, arguments_read}
use Rattle.irtext_survey.specs.declared.notes.Mention.TheVariants.{DefinesValue}
use Rattle.irtext_survey.proofs.Mentions.{notes_none, notes_then, arguments_more, argument_one, take_over}
use Rattle.irtext_survey.proofs.opening.arguments_noted.Goals as goal

pub loop-index-init : goal.loop-index-init
loop-index-init g c = notes_none c.args.names.now.names c.args.name.now c.args.book.now

pub name_noted-requires : goal.name_noted-requires
name_noted-requires g c = argument_one c.args.names.now.names c.args.arguments.now c.loop-index.index c.argument_at-read.result c.argument_at-read.ensures c.requires

pub loop-index-preserved : goal.loop-index-preserved
loop-index-preserved g c =
    subst (λ rs. Notes c.args.names.now.names c.args.name.now rs c.args.book.now c.name_noted.new.book) (sym (arguments_more c.args.arguments.now c.loop-index.index c.argument_at-read.result c.argument_at-read.ensures))
    (notes_then c.args.names.now.names c.args.name.now (arguments_read (take c.loop-index.index c.args.arguments.now)) ((DefinesValue, c.argument_at-read.result) ∷ []) c.args.book.now c.loop-index.book c.name_noted.new.book c.loop-index.invariant c.in_default.ensures)

pub returns : goal.returns
returns g c = subst (λ rs. Notes c.args.names.now.names c.args.name.now (arguments_read rs) c.args.book.now c.loop-index.book) (take_over c.args.arguments.now c.loop-index.index (omega (arith, c.len-index-end.ensures, c.loop-index-test.false, c.loop-index.auto.index-end))) c.loop-index.invariant
