use Rattle.std.proofs.Common.{◌∙◌, true, sym, ap, refl}
use Rattle.std.proofs.Output.{has_written_append, has_written_of_eq}
use Rattle.std.proofs.lemmas.Iterator.{YieldsList-from_chars}
use Rattle.std.proofs.lemmas.Iterator.Consumers.{YieldsList-end}
use Rattle.std.proofs.lemmas.List.{map-id}
use Rattle.irtext_diagnostics.specs.Json.{json_characters}
use Rattle.irtext_diagnostics.proofs.Jsons.{characters-more}
use Rattle.irtext_diagnostics.proofs.json.fmt_characters.Goals as goal

pub loop-c-preserved : goal.loop-c-preserved
loop-c-preserved g c = λ plain.
    let so_far = c.loop-c.invariant plain in
    has_written_of_eq _ _ _ _ _ (characters-more c.loop-c.yielded c.in-Some.c) (has_written_append _ _ _ _ _ _ so_far (c.in_ok-fmt_character.ensures so_far.plain (refl {a = true})))

pub returns : goal.returns
returns g c = λ plain ok.
    let all = YieldsList-end (YieldsList-from_chars c.args.text.now c.utf8.text cc) c.loop-c.yielded _ c.loop-c.yielded_by _ _ c.in-None.is c.next.ensures.steps in
    has_written_of_eq _ _ _ _ _ (ap json_characters (sym (map-id c.loop-c.yielded) ∙ all.0)) (c.loop-c.invariant plain)
