use Rattle.std.proofs.lemmas.Str.{IsUtf8-string_bytes}
use Rattle.irtext_tokens.specs.QuotedTexts.{quoted_at}
use Rattle.irtext_syntax.proofs.QuotedRead.{gives_characters}
use Rattle.irtext_syntax.proofs.quoted.CharactersPart.read.Goals as goal

pub returns : goal.returns
returns g c = record { answers = gives_characters c.args.stream.now.failed (quoted_at c.args.stream.now.rest) c.args.stream.now c.quoted_string_parse.new.stream _ c.new.result (IsUtf8-string_bytes c.in_ok-text.text) c.new.ensures c.in_ok-text.ensures }
