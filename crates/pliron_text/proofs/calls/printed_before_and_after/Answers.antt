use Rattle.irtext_print.specs.Printers.Appended.{fresh}
use Rattle.pliron_text.proofs.BeforeAndAfter.{reason_same, texts_same}
use Rattle.pliron_text.proofs.KeptRoots.{there_stays}
use Rattle.pliron_text.proofs.calls.printed_before_and_after.Goals as goal

pub text_of_root-after-requires : goal.text_of_root-after-requires
text_of_root-after-requires g c =
    let parse = c.read_beside-answer in
    record { live = there_stays c.args.op c.args.ctx.now parse.new.ctx parse.ensures.older }

pub returns-clause-same : goal.returns-clause-same
returns-clause-same g c =
    let parse = c.read_beside-answer in
    texts_same g.T.IrText g.A.IrText g.A.AttrText g.A.PartialEq.eq c.args.op c.args.ctx.now parse.new.ctx parse.ensures.older (fresh c.args.layout.now.width c.args.layout.now.indent c.args.layout.now.limit)
    c.text_of_root-before.result c.text_of_root-after.result c.text_of_root-before.ensures.text c.text_of_root-after.ensures.text

pub returns-clause-refused : goal.returns-clause-refused
returns-clause-refused g c =
    let parse = c.read_beside-answer in
    reason_same g.T.IrText g.A.IrText g.A.AttrText g.A.PartialEq.eq c.args.op c.args.ctx.now parse.new.ctx parse.ensures.older (fresh c.args.layout.now.width c.args.layout.now.indent c.args.layout.now.limit)
    c.text_of_root-after.result c.text_of_root-after.ensures.refused

pub returns-clause-kept : goal.returns-clause-kept
returns-clause-kept g c = c.read_beside-answer.ensures.older.kept
