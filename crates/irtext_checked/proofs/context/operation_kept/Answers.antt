use Rattle.irtext_context.specs.Context.{operation}
use Rattle.irtext_grammar.proofs.KeptParts.{part_is, kept_of, accepted_of}
use Rattle.irtext_checked.proofs.context.operation_kept.Goals as goal

pub returns : goal.returns
returns g c = record {
  kept = λ view alive.
      kept_of c.args.ctx.now view c.get_opid-id.result.now c.attributes-attributes.result.now c.loc.result.now
      (part_is (λ o. o.id) (operation c.args.ctx.now c.args.op) view c.get_opid-id.result.now alive c.get_opid-id.ensures)
      (part_is (λ o. o.attributes) (operation c.args.ctx.now c.args.op) view c.attributes-attributes.result.now alive c.attributes-attributes.ensures)
      (part_is (λ o. o.loc) (operation c.args.ctx.now c.args.op) view c.loc.result.now alive c.loc.ensures)
      c.id_kept.ensures.dialect c.id_kept.ensures.name c.entries_kept.ensures c.keeps_keys.ensures.differ c.keeps_keys.ensures.reserved c.location_kept.ensures.fits c.location_kept.ensures.holds
      (accepted_of c.args.ctx.now.dialects c.get_opid-id.result.now c.op_info-info.result c.op_info-info.ensures.found c.op_info-info.ensures.accepted);
}
