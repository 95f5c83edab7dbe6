use Rattle.std.proofs.Common.{◌∙◌, sym, ap, true, false}
use Rattle.irtext_excerpt.specs.Excerpt.{dots, blanks}
use Rattle.irtext_excerpt.proofs.Excerpts.{dots-blank}
use Rattle.irtext_excerpt.proofs.blank_dots.Goals as goal

pub returns-then-is_cut : goal.returns-then-is_cut
returns-then-is_cut c = sym (ap (λ b. blanks (dots b)) c.if-is_cut.true ∙ dots-blank true)

pub returns-else-is_cut : goal.returns-else-is_cut
returns-else-is_cut c = sym (ap (λ b. blanks (dots b)) c.if-is_cut.false ∙ dots-blank false)
