use Rattle.irtext_tokens.specs.AttrTexts.{attr_at}
use Rattle.irtext_parse_root.proofs.Handing.{heads_given, first_given, spares_more}
use Rattle.irtext_parse_root.proofs.turns.head.Goals as goal

pub block_begin-requires-clause-values : goal.block_begin-requires-clause-values
block_begin-requires-clause-values g c = c.requires.open.0

pub block_begin-requires-clause-labels : goal.block_begin-requires-clause-labels
block_begin-requires-clause-labels g c = c.requires.open.1

pub block_begin-requires-clause-tied : goal.block_begin-requires-clause-tied
block_begin-requires-clause-tied g c = c.requires.steady.sound.sound.tied

pub returns-clause-first : goal.returns-clause-first
returns-clause-first g c =
    let e = c.block_begin.ensures in
    first_given g.T.IrText.reading (attr_at g.A.IrText.reading) c.args.names.now c.args.s.now c.block_begin.new.names c.block_begin.new.s e.rest c.block_begin.result e.begins

pub returns-clause-heads : goal.returns-clause-heads
returns-clause-heads g c =
    let e = c.block_begin.ensures in
    heads_given g.T.IrText.reading (attr_at g.A.IrText.reading) c.args.names.now c.args.s.now c.block_begin.new.names c.block_begin.new.s e.rest c.args.region c.block_begin.result e.names.kept e.names.values e.names.labels e.begins e.came e.gains e.spares e.lasts e.sound e.new e.noted

pub returns-clause-spares : goal.returns-clause-spares
returns-clause-spares g c =
    let e = c.block_begin.ensures in
    spares_more g.T.IrText.reading (attr_at g.A.IrText.reading) c.args.names.now c.args.s.now c.block_begin.new.names c.block_begin.new.s e.rest c.block_begin.result e.names.kept e.unnoted e.kept
