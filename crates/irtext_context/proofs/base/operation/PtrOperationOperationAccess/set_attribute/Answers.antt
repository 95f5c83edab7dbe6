use Rattle.irtext_context.proofs.Attributes.{operation_set}
use Rattle.irtext_context.proofs.base.operation.PtrOperationOperationAccess.set_attribute.Goals as goal

pub returns : goal.returns
returns g c =
    let s = operation_set c.args.ctx.now c.args.self c.operation_attributes_mut.result.now c.insert.new.self c.operation_attributes_mut.ensures.value c.args.key c.args.attr c.insert.result c.insert.ensures.entries c.insert.ensures.err in
    record { edits = s.0; allowed = c.insert.ensures.allowed; err = s.1; refused = c.insert.ensures.refused; kept = s.2 }
