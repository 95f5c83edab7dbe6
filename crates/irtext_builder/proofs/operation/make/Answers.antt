use Rattle.irtext_context.proofs.Made.{kept_made}
use Rattle.irtext_builder.proofs.operation.make.Goals as goal

pub returns-in_err-add_regions-clause-kept : goal.returns-in_err-add_regions-clause-kept
returns-in_err-add_regions-clause-kept g c = λ mark h. kept_made mark h c.in_ok-op.ensures.made (c.make_operation_with.ensures.kept mark h) c.add_regions.ensures.kept

pub returns-clause-kept : goal.returns-clause-kept
returns-clause-kept g c = λ mark h. kept_made mark h c.in_ok-op.ensures.made (c.make_operation_with.ensures.kept mark h) c.add_regions.ensures.kept
