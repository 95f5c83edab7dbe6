use Rattle.std.proofs.Common.{◌∙◌, sym}
use Rattle.std.proofs.Output.{has_written_of_eq}
use Rattle.irtext_excerpt.proofs.Excerpts.{coded_bytes}
use Rattle.irtext_excerpt.proofs.characters.fmt_character.Goals as goal

pub returns-then-is_coded : goal.returns-then-is_coded
returns-then-is_coded g c = λ plain ok.
    let code = c.args.c in
    has_written_of_eq _ _ _ _ _ (coded_bytes code (sym c.is_coded.ensures ∙ c.if-is_coded.true)) (c.write.ensures.writes plain ok)
