use Rattle.std.proofs.Common.{◌∙◌, ◌++◌, nat_lt, length, true, ap, refl}
use Rattle.std.proofs.Output.{has_written_append, has_written_of_eq}
use Rattle.std.specs.Str.{chars}
use Rattle.irtext_excerpt.specs.Excerpt.{dots, blanks, shown, last_shown}
use Rattle.irtext_excerpt.proofs.Excerpts.{margin-bytes}
use Rattle.irtext_excerpt.proofs.fmt_margin.Goals as goal

pub returns : goal.returns
returns g c = λ plain ok.
    let text = chars c.args.before.now in
    let first = c.in_ok-write_str.ensures.writes plain (refl {a = true}) in
    let cut = c.blank_dots.ensures ∙ ap (λ b. blanks (dots b)) c.is_cut.ensures in
    let same = ap (λ z. z ++ blanks (shown (chars c.last_shown-last.result.now))) cut ∙ ap (λ t. blanks (dots (nat_lt (length t) (length text))) ++ blanks (shown t)) c.last_shown-last.ensures ∙ margin-bytes _ (last_shown text) in
    has_written_of_eq _ _ _ _ _ same (has_written_append _ _ _ _ _ _ first (c.fmt_blanks.ensures first.plain ok))
