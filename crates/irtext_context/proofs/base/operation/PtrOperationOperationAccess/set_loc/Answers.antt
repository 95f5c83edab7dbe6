use Rattle.std.proofs.Common.{◌∙◌, refl, ap, Some}
use Rattle.std.specs.Option.{option_map}
use Rattle.irtext_graph.proofs.Data.{edited}
use Rattle.irtext_context.specs.Context.{with_loc}
use Rattle.irtext_context.proofs.Contexts.{edits-keeps}
use Rattle.irtext_context.proofs.base.operation.PtrOperationOperationAccess.set_loc.Goals as goal

pub returns-clause-edits : goal.returns-clause-edits
returns-clause-edits g c = rw (← c.ctx.view_is) (record {
  graph = edited c.ctx.inside.graph c.args.self (Some c.in-Some.held) (option_map (with_loc c.args.loc)) (c.operation_mut.ensures.value ∙ ap (λ d. Some d) c.in-Some.is);
  paths = refl;
  dialects = refl;
})

pub returns-clause-kept : goal.returns-clause-kept
returns-clause-kept g c = λ mark none. edits-keeps mark _ _ c.args.self (with_loc c.args.loc) none (returns-clause-edits g c)
