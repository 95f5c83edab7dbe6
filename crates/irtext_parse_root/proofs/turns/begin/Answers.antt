use Rattle.irtext_tokens.specs.AttrTexts.{attr_at}
use Rattle.irtext_parse_root.proofs.Handing.{begins_given, spares_same}
use Rattle.irtext_parse_root.proofs.turns.begin.Goals as goal

pub operation_begin-requires-clause-tied : goal.operation_begin-requires-clause-tied
operation_begin-requires-clause-tied g c = c.requires.steady.sound.sound.tied

pub returns-clause-begins : goal.returns-clause-begins
returns-clause-begins g c =
    let e = c.operation_begin.ensures in
    begins_given g.T.IrText.reading (attr_at g.A.IrText.reading) c.args.names.now c.args.s.now c.operation_begin.new.names c.operation_begin.new.s e.rest c.args.block c.operation_begin.result e.names.kept e.names.values e.names.labels e.marks e.begins e.came e.lasts e.sound e.new

pub returns-clause-spares : goal.returns-clause-spares
returns-clause-spares g c =
    let e = c.operation_begin.ensures in
    spares_same g.T.IrText.reading (attr_at g.A.IrText.reading) c.args.names.now c.args.s.now c.operation_begin.new.names c.operation_begin.new.s e.rest c.operation_begin.result e.names.kept e.marks e.kept
