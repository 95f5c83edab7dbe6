use Rattle.std.proofs.Common.{refl, List}
use Rattle.irtext_base.specs.Text.{Text}
use Rattle.irtext_base.specs.declared.base.attributes.AttrObj.{AttrObj}
use Rattle.irtext_context.specs.Context.{ContextView, EditsBlock, with_changed_block, with_block_attributes}
use Rattle.irtext_context.proofs.Attributes.{block_held_seen, changed_block, changed_block_edits}
use Rattle.irtext_context.proofs.Contexts.{edits_block-keeps}
use Rattle.irtext_context.proofs.base.context.Context.block_attributes_mut.Goals as goal

pub returns : goal.returns
returns g c =
    let v : ContextView g.row.T.Denot g.row.A.Denot = record { graph = c.self.inside.graph; paths = c.self.inside.paths; dialects = c.self.inside.dialects.entries } in
    let edits : (w : List (Text × AttrObj g.row.A.Denot)) → EditsBlock v (with_changed_block v c.args.p (with_block_attributes w)) c.args.p (with_block_attributes w) = λ w. changed_block_edits v c.args.p c.block_mut.result.now (with_block_attributes w) c.block_mut.ensures.value in
    rw (← c.self.view_is) ((refl, λ w. changed_block v c.args.p c.block_mut.result.now (with_block_attributes w) c.block_mut.ensures.value), record { lends = tt; value = block_held_seen v c.args.p c.block_mut.result.now c.block_mut.ensures.value; edits = edits; kept = λ w mark none. edits_block-keeps mark v _ c.args.p (with_block_attributes w) none (edits w) })
