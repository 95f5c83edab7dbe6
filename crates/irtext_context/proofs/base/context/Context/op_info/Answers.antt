use Rattle.std.proofs.Common.{◌∙◌, ap, option_and_then}
use Rattle.std.specs.Map.{lookup}
use Rattle.irtext_context.specs.Dialects.{Table, same_id}
use Rattle.irtext_context.proofs.base.context.Context.op_info.Goals as goal

pub returns-clause-found : goal.returns-clause-found
returns-clause-found g c = rw (← c.self.view_is) (c.op.ensures.found ∙ ap (option_and_then (λ (table : Table). lookup (same_id c.args.id.now) table.entries)) c.in_ok-dialect.ensures)
