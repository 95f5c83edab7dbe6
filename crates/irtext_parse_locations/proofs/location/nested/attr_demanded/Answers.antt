use Rattle.irtext_base.specs.Answers.{unless_failed}
use Rattle.irtext_base.specs.Locations.{attr_view}
use Rattle.irtext_base.proofs.Compose.{answers_demanded}
use Rattle.irtext_tokens.specs.AttrTexts.{attr_at}
use Rattle.irtext_grammar.specs.Readers.Streams.{itself, replaced}
use Rattle.irtext_grammar.proofs.Readers.PlainStream.{alone}
use Rattle.irtext_parse_locations.proofs.location.nested.attr_demanded.Goals as goal

pub returns : goal.returns
returns g c =
    let old = c.args.stream.now in
    record { answers = answers_demanded itself replaced alone.view_at alone.at_at attr_view (unless_failed old.failed (attr_at g.A.IrText.reading old.rest)) old c.attr_parse-answer.new.stream c.committed.new.stream c.attr_parse-answer.result c.committed.result c.attr_parse-answer.ensures.read.answers c.committed.ensures }
