use Rattle.std.proofs.Common.{◌∙◌, sym}
use Rattle.irtext_base.specs.FormatViews.{directives_of}
use Rattle.irtext_grammar.specs.Contexts.Held.{entries_of}
use Rattle.irtext_print_ops.specs.Fits.{first_uncovered}
use Rattle.irtext_print_ops.proofs.Counting.{none_uncovered, some_uncovered}
use Rattle.irtext_print_ops.proofs.fits.uncovered_key.Goals as goal

pub returns-then-dictionary : goal.returns-then-dictionary
returns-then-dictionary g c =
    none_uncovered (directives_of c.args.directives.now) (first_uncovered g.A.AttrText.outlined (directives_of c.args.directives.now) (entries_of c.args.attributes.now)) (sym c.requires ∙ c.if-dictionary.true)

pub returns : goal.returns
returns g c =
    c.first_uncovered.ensures
    ∙ some_uncovered (directives_of c.args.directives.now) (first_uncovered g.A.AttrText.outlined (directives_of c.args.directives.now) (entries_of c.args.attributes.now)) (sym c.requires ∙ c.if-dictionary.false)
