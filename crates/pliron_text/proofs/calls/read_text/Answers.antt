use Rattle.irtext_base.specs.Own.{texts_of}
use Rattle.irtext_names.specs.Promises.{RefusesRoot}
use Rattle.irtext_tokens.specs.AttrTexts.{attr_at}
use Rattle.irtext_parse_state.specs.declared.parsable.state.StateStream.{StateStream}
use Rattle.pliron_text.specs.Calls.{RefusesText}
use Rattle.pliron_text.proofs.Back.{refused_as}
use Rattle.pliron_text.proofs.calls.read_text.Goals as goal

pub returns-clause-refuses : goal.returns-clause-refuses
returns-clause-refuses g c =
    let types = texts_of g.T.IrText.reading g.T.IrText.written in
    let owns = texts_of g.A.IrText.reading g.A.IrText.written in
    let attr = attr_at g.A.IrText.reading in
    let s : StateStream g.row.T.Denot g.row.A.Denot (Unit {0}) = record { stream = c.in-Ok.stream; state = c.new-state.result } in
    refused_as (RefusesRoot types owns g.T.IrText.reading attr s.state.ctx.now.dialects s.stream) (RefusesText types owns attr c.args.text.now c.args.ctx.now g.T.IrText.reading)
    (λ f p. record { old = s; begins = record { stream_is = c.in-Ok.ensures; context = c.new-state.ensures.now; source = c.new-state.ensures.src; fresh = c.new-state.ensures.fresh }; refuses = p })
    c.fresh_parse-answer.result c.fresh_parse-answer.ensures.unresolved
