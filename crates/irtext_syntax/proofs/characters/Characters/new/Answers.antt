use Rattle.std.proofs.lemmas.Str.{IsUtf8-string_bytes, scalars-chars}
use Rattle.irtext_syntax.specs.ScalarTexts.{scalar_text_is}
use Rattle.irtext_syntax.proofs.characters.Characters.new.Goals as goal

pub returns : goal.returns
returns c = scalar_text_is _ (scalars-chars _ (IsUtf8-string_bytes c.args.text))
