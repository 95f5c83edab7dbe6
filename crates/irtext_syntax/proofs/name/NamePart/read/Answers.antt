use Rattle.std.proofs.Common.{◌∙◌, sym, ap}
use Rattle.irtext_tokens.specs.Tokens.{identifier_at}
use Rattle.irtext_syntax.specs.NameTexts.{word_text, word_text_found}
use Rattle.irtext_syntax.proofs.Seen.{gives_seen}
use Rattle.irtext_syntax.proofs.name.NamePart.read.Goals as goal

pub returns : goal.returns
returns g c =
    let w = c.new.result in
    record { answers = gives_seen word_text c.args.stream.now.failed (identifier_at c.args.stream.now.rest) c.args.stream.now c.identifier_parse.new.stream c.in_ok-identifier.identifier w (sym (word_text_found w) ∙ ap word_text c.new.ensures) c.in_ok-identifier.ensures }
