use Rattle.std.proofs.Common.{◌∙◌, refl, List}
use Rattle.irtext_base.specs.Text.{Text}
use Rattle.irtext_base.specs.declared.base.attributes.AttrObj.{AttrObj}
use Rattle.irtext_context.specs.Context.{ContextView, EditsOperation, with_changed_operation, with_attributes}
use Rattle.irtext_context.proofs.Attributes.{held_seen, changed, changed_edits}
use Rattle.irtext_context.proofs.Contexts.{edits-keeps}
use Rattle.irtext_context.proofs.base.context.Context.operation_attributes_mut.Goals as goal

pub returns : goal.returns
returns g c =
    let v : ContextView g.row.T.Denot g.row.A.Denot = record { graph = c.self.inside.graph; paths = c.self.inside.paths; dialects = c.self.inside.dialects.entries } in
    let edits : (w : List (Text × AttrObj g.row.A.Denot)) → EditsOperation v (with_changed_operation v c.args.p (with_attributes w)) c.args.p (with_attributes w) = λ w. changed_edits v c.args.p c.operation_mut.result.now (with_attributes w) c.operation_mut.ensures.value in
    rw (← c.self.view_is) ((refl, λ w. changed v c.args.p c.operation_mut.result.now (with_attributes w) c.operation_mut.ensures.value), record { lends = tt; value = held_seen v c.args.p c.operation_mut.result.now c.operation_mut.ensures.value ∙ c.attributes_of.ensures.value; edits = edits; kept = λ w mark none. edits-keeps mark v _ c.args.p (with_attributes w) none (edits w) })
