use Rattle.std.proofs.Common.{◌∷◌, [], take, sym, subst, arith}
use Rattle.irtext_survey.specs.Walk.{Notes, read_as}
use Rattle.irtext_survey.proofs.Mentions.{notes_none, notes_then, read_more, read_one, take_over}
use Rattle.irtext_survey.proofs.opening.names_noted.Goals as goal

pub loop-index-init : goal.loop-index-init
loop-index-init c = notes_none c.args.names.now.names c.args.name.now c.args.book.now

pub name_noted-requires : goal.name_noted-requires
name_noted-requires c = read_one c.args.names.now.names c.args.mention c.args.read.now c.loop-index.index c.name_at.result c.name_at.ensures c.requires

pub loop-index-preserved : goal.loop-index-preserved
loop-index-preserved c =
    subst (λ rs. Notes c.args.names.now.names c.args.name.now rs c.args.book.now c.name_noted.new.book) (sym (read_more c.args.mention c.args.read.now c.loop-index.index c.name_at.result c.name_at.ensures))
    (notes_then c.args.names.now.names c.args.name.now (read_as c.args.mention (take c.loop-index.index c.args.read.now)) ((c.args.mention, c.name_at.result) ∷ []) c.args.book.now c.loop-index.book c.name_noted.new.book c.loop-index.invariant c.in_default.ensures)

pub returns : goal.returns
returns c = subst (λ rs. Notes c.args.names.now.names c.args.name.now (read_as c.args.mention rs) c.args.book.now c.loop-index.book) (take_over c.args.read.now c.loop-index.index (omega (arith, c.len-index-end.ensures, c.loop-index-test.false, c.loop-index.auto.index-end))) c.loop-index.invariant
