use Rattle.irtext_base.specs.Own.{texts_of}
use Rattle.irtext_tokens.specs.AttrTexts.{attr_at}
use Rattle.pliron_text.proofs.BeforeAndAfter.{kept_by_answer}
use Rattle.pliron_text.proofs.calls.read_beside.Goals as goal

pub returns : goal.returns
returns g c =
    let answer = c.read_text-answer in
    record {
      older = record {
        kept = kept_by_answer (texts_of g.T.IrText.reading g.T.IrText.written) (texts_of g.A.IrText.reading g.A.IrText.written) (attr_at g.A.IrText.reading) c.args.text.now c.args.op c.args.ctx.now answer.new.ctx c.requires.live
            answer.result answer.ensures.reads answer.ensures.objects;
        before = answer.ensures.before.counters;
        after = c.keeps_parts.ensures.all.counters;
        there = c.requires.live;
        located = c.requires.located;
      };
    }
