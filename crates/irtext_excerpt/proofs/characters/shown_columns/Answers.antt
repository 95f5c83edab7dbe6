use Rattle.std.proofs.Common.{◌∙◌, sym, ap}
use Rattle.irtext_excerpt.specs.Excerpt.{columns_of}
use Rattle.irtext_excerpt.proofs.Excerpts.{coded_columns, plain_columns}
use Rattle.irtext_excerpt.proofs.characters.shown_columns.Goals as goal

pub returns-then-is_coded-clause-value : goal.returns-then-is_coded-clause-value
returns-then-is_coded-clause-value c = sym (coded_columns c.args.c (sym c.is_coded.ensures ∙ c.if-is_coded.true))

pub returns-else-is_coded-clause-value : goal.returns-else-is_coded-clause-value
returns-else-is_coded-clause-value c = c.columns_of.ensures.value ∙ ap columns_of c.glyph.ensures ∙ sym (plain_columns c.args.c (sym c.is_coded.ensures ∙ c.if-is_coded.false))
