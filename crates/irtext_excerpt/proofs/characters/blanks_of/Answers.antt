use Rattle.std.proofs.Common.{◌∙◌, sym, replicate, ap}
use Rattle.irtext_excerpt.specs.Excerpt.{columns_of}
use Rattle.irtext_excerpt.proofs.Excerpts.{coded_columns, plain_columns}
use Rattle.irtext_excerpt.proofs.characters.blanks_of.Goals as goal

pub returns-then-is_coded : goal.returns-then-is_coded
returns-then-is_coded c = ap (λ n. replicate n 32) (sym (coded_columns c.args.c (sym c.is_coded.ensures ∙ c.if-is_coded.true)))

pub returns-else-is_coded : goal.returns-else-is_coded
returns-else-is_coded c =
    c.spaces.ensures ∙ ap (λ n. replicate n 32) (c.columns_of.ensures.value ∙ ap columns_of c.glyph.ensures ∙ sym (plain_columns c.args.c (sym c.is_coded.ensures ∙ c.if-is_coded.false)))
