use Rattle.irtext_tokens.specs.AttrTexts.{attr_at}
use Rattle.irtext_parse_root.proofs.Handing.{enters_given, spares_same}
use Rattle.irtext_parse_root.proofs.turns.enter.Goals as goal

pub region_begin-requires-clause-tied : goal.region_begin-requires-clause-tied
region_begin-requires-clause-tied g c = c.requires.steady.sound.sound.tied

pub returns-clause-enters : goal.returns-clause-enters
returns-clause-enters g c =
    let e = c.region_begin.ensures in
    enters_given g.T.IrText.reading (attr_at g.A.IrText.reading) c.args.names.now c.args.s.now c.region_begin.new.names c.region_begin.new.s e.rest c.args.op c.args.isolated c.region_begin.result e.names e.marks e.values e.labels e.begins e.came e.gains e.spares e.lasts e.sound e.open e.new

pub returns-clause-spares : goal.returns-clause-spares
returns-clause-spares g c =
    let e = c.region_begin.ensures in
    spares_same g.T.IrText.reading (attr_at g.A.IrText.reading) c.args.names.now c.args.s.now c.region_begin.new.names c.region_begin.new.s e.rest c.region_begin.result (λ i text h. rw e.names h) e.marks e.kept
