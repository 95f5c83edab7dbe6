use Rattle.std.proofs.Common.{◌∙◌, true, sym, ap, refl}
use Rattle.std.proofs.Output.{has_written_append, has_written_of_eq}
use Rattle.std.proofs.lemmas.Iterator.{YieldsList-from_chars}
use Rattle.std.proofs.lemmas.Iterator.Consumers.{YieldsList-end}
use Rattle.std.proofs.lemmas.List.{map-id}
use Rattle.std.specs.Str.{encode_utf8_all}
use Rattle.irtext_excerpt.specs.Excerpt.{shown_lines}
use Rattle.irtext_excerpt.proofs.Excerpts.{lines-more}
use Rattle.irtext_excerpt.proofs.characters.fmt_shown_lines.Goals as goal

pub loop-c-preserved : goal.loop-c-preserved
loop-c-preserved g c = λ plain.
    let so_far = c.loop-c.invariant plain in
    has_written_of_eq _ _ _ _ _ (lines-more c.loop-c.yielded c.in-Some.c) (has_written_append _ _ _ _ _ _ so_far (c.in_ok-fmt_in_lines.ensures so_far.plain (refl {a = true})))

pub returns : goal.returns
returns g c = λ plain ok.
    let all = YieldsList-end (YieldsList-from_chars c.args.text.now c.utf8.text cc) c.loop-c.yielded _ c.loop-c.yielded_by _ _ c.in-None.is c.next.ensures.steps in
    has_written_of_eq _ _ _ _ _ (ap (λ t. encode_utf8_all (shown_lines t)) (sym (map-id c.loop-c.yielded) ∙ all.0)) (c.loop-c.invariant plain)
