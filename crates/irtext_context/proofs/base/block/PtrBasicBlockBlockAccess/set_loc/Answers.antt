use Rattle.std.proofs.Common.{refl}
use Rattle.irtext_graph.proofs.Data.{edited_block}
use Rattle.irtext_context.specs.Context.{with_block_loc}
use Rattle.irtext_context.proofs.Contexts.{edits_block-keeps}
use Rattle.irtext_context.proofs.base.block.PtrBasicBlockBlockAccess.set_loc.Goals as goal

pub returns-clause-edits : goal.returns-clause-edits
returns-clause-edits g c = rw (← c.ctx.view_is) (record { graph = edited_block c.ctx.inside.graph c.args.self c.block_mut.result.now (with_block_loc c.args.loc) c.block_mut.ensures.value; paths = refl; dialects = refl })

pub returns-clause-kept : goal.returns-clause-kept
returns-clause-kept g c = λ mark none. edits_block-keeps mark _ _ c.args.self (with_block_loc c.args.loc) none (returns-clause-edits g c)
