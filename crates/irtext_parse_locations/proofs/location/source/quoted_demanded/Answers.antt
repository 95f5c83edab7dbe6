use Rattle.std.specs.Prelude.{string_bytes}
use Rattle.irtext_base.specs.Answers.{unless_failed}
use Rattle.irtext_base.proofs.Compose.{answers_demanded}
use Rattle.irtext_grammar.specs.Readers.Locations.{bytes_at}
use Rattle.irtext_grammar.specs.Readers.Streams.{itself, replaced}
use Rattle.irtext_grammar.proofs.Readers.PlainStream.{alone}
use Rattle.irtext_parse_locations.proofs.location.source.quoted_demanded.Goals as goal

pub returns : goal.returns
returns g c =
    let old = c.args.stream.now in
    record { answers = answers_demanded itself replaced alone.view_at alone.at_at (λ s. string_bytes s) (unless_failed old.failed (bytes_at old.rest)) old c.quoted_string_parse-answer.new.stream c.committed.new.stream c.quoted_string_parse-answer.result c.committed.result c.quoted_string_parse-answer.ensures c.committed.ensures }
