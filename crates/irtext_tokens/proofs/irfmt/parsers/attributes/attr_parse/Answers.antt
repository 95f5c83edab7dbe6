use Rattle.irtext_base.specs.Answers.{unless_failed}
use Rattle.irtext_base.specs.Locations.{attr_view}
use Rattle.irtext_base.proofs.Compose.{answers_beside}
use Rattle.irtext_tokens.specs.AttrTexts.{attr_at}
use Rattle.irtext_tokens.proofs.irfmt.parsers.attributes.attr_parse.Goals as goal

pub returns-clause-beside : goal.returns-clause-beside
returns-clause-beside g c =
    let m = g.met.S.CharStream in
    let view = g.S.CharStream.view in
    let old = c.args.stream.now in
    answers_beside view g.S.CharStream.at m.view_at m.at_at m.at_view attr_view (unless_failed (view old).failed (attr_at g.A.IrText.reading (view old).rest)) old c.led_parse.new.stream c.led_parse.result c.led_parse.ensures.answers
