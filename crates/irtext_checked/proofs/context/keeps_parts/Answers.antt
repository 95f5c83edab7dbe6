use Rattle.irtext_grammar.proofs.Roots.{kept_root}
use Rattle.irtext_checked.proofs.context.keeps_parts.Goals as goal

pub returns : goal.returns
returns g c = record {
  all = c.all_kept.ensures;
  kept = λ p x e. kept_root c.args.ctx.now c.all_kept.ensures g.A.IrText.reading g.A.IrText.written g.met.A.IrText.lawful g.met.A.IrText.sincere g.met.A.AttrText.unreserved g.A.AttrText.outlined g.A.AttrText.print_once g.A.PartialEq.eq p x e;
}
