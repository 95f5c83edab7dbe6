use Rattle.irtext_context.proofs.Attributes.{block_set}
use Rattle.irtext_context.proofs.base.block.PtrBasicBlockBlockAccess.set_attribute.Goals as goal

pub returns : goal.returns
returns g c =
    let s = block_set c.args.ctx.now c.args.self c.block_attributes_mut.result.now c.insert.new.self c.block_attributes_mut.ensures.value c.args.key c.args.attr c.insert.result c.insert.ensures.entries c.insert.ensures.err in
    record { edits = s.0; allowed = c.insert.ensures.allowed; err = s.1; refused = c.insert.ensures.refused; kept = s.2 }
