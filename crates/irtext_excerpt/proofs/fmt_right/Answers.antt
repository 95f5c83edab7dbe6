use Rattle.std.proofs.Common.{◌∙◌, ◌++◌, nat_lt, length, true, ap, refl}
use Rattle.std.proofs.Output.{has_written_append, has_written_of_eq}
use Rattle.std.specs.Str.{chars, encode_utf8_all}
use Rattle.irtext_excerpt.specs.Excerpt.{dots, shown, first_shown}
use Rattle.irtext_excerpt.proofs.Excerpts.{right-bytes}
use Rattle.irtext_excerpt.proofs.fmt_right.Goals as goal

pub returns : goal.returns
returns g c = λ plain ok.
    let text = chars c.args.rest.now in
    let first = c.in_ok-fmt_shown.ensures plain (refl {a = true}) in
    let cut = c.dots.ensures ∙ ap dots c.is_cut.ensures in
    let same = ap (λ z. encode_utf8_all (shown (chars c.first_shown-first.result.now)) ++ z) cut ∙ ap (λ t. encode_utf8_all (shown t) ++ dots (nat_lt (length t) (length text))) c.first_shown-first.ensures ∙ right-bytes (first_shown text) _ in
    has_written_of_eq _ _ _ _ _ same (has_written_append _ _ _ _ _ _ first (c.write_str.ensures.writes first.plain ok))
