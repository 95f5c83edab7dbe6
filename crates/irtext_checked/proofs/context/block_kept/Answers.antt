use Rattle.irtext_context.specs.Context.{block}
use Rattle.irtext_grammar.proofs.KeptParts.{part_is, block_kept_of}
use Rattle.irtext_checked.proofs.context.block_kept.Goals as goal

pub returns : goal.returns
returns g c = record {
  kept = λ view alive.
      block_kept_of c.args.ctx.now view _ c.attributes-attributes.result.now c.loc.result.now
      (part_is (λ b. b.label) (block c.args.ctx.now c.args.at) view _ alive c.label.ensures)
      (part_is (λ b. b.attributes) (block c.args.ctx.now c.args.at) view c.attributes-attributes.result.now alive c.attributes-attributes.ensures)
      (part_is (λ b. b.loc) (block c.args.ctx.now c.args.at) view c.loc.result.now alive c.loc.ensures)
      c.label_kept.ensures c.entries_kept.ensures c.keeps_keys.ensures.differ c.keeps_keys.ensures.reserved c.location_kept.ensures.fits c.location_kept.ensures.holds;
}
