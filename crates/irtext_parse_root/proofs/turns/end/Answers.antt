use Rattle.irtext_tokens.specs.AttrTexts.{attr_at}
use Rattle.irtext_parse_root.proofs.Handing.{ends_given, spares_more}
use Rattle.irtext_parse_root.proofs.turns.end.Goals as goal

pub operation_end-requires-clause-tied : goal.operation_end-requires-clause-tied
operation_end-requires-clause-tied g c = c.requires.steady.sound.sound.tied

pub operation_end-requires-clause-known : goal.operation_end-requires-clause-known
operation_end-requires-clause-known g c = c.requires.known

pub returns-clause-ends : goal.returns-clause-ends
returns-clause-ends g c =
    let e = c.operation_end.ensures in
    ends_given g.T.IrText.reading (attr_at g.A.IrText.reading) c.args.names.now c.args.s.now c.operation_end.new.names c.operation_end.new.s e.rest c.args.begun.now c.operation_end.result c.requires.begun e.names.kept e.names.values e.names.labels e.ends e.own e.spares e.noted e.lasts e.sound

pub returns-clause-spares : goal.returns-clause-spares
returns-clause-spares g c =
    let e = c.operation_end.ensures in
    spares_more g.T.IrText.reading (attr_at g.A.IrText.reading) c.args.names.now c.args.s.now c.operation_end.new.names c.operation_end.new.s e.rest c.operation_end.result e.names.kept e.unnoted e.kept
