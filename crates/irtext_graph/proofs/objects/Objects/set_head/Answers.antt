use Rattle.std.proofs.Common.{refl, ap, ◌∙◌}
use Rattle.std.proofs.Math.Seq.{map-set_same}
use Rattle.irtext_graph.specs.Content.{typed}
use Rattle.irtext_graph.specs.Uses.{first_of}
use Rattle.irtext_graph.specs.declared.object.Defined.TheVariants.{OfValue}
use Rattle.irtext_graph.proofs.Fields.{operation_same, block_same}
use Rattle.irtext_graph.proofs.Puts.{seen_within, uses_same, result_at, result_here, result_others, argument_at, argument_here, argument_others, preds_here, preds_others}
use Rattle.irtext_graph.proofs.objects.Objects.set_head.Goals as goal

pub returns-in-OfValue-Result-clause-seen : goal.returns-in-OfValue-Result-clause-seen
returns-in-OfValue-Result-clause-seen g c =
    let definition = c.index_mut in
    operation_same c.args.self.now c.in-OfValue-Result.p c.content_mut.result.now _ _ _ c.content_mut.ensures.value refl refl (map-set_same typed _ c.in-OfValue-Result.i _ definition.result.now (ap typed definition.ensures.value))

pub returns-in-OfValue-Argument-clause-seen : goal.returns-in-OfValue-Argument-clause-seen
returns-in-OfValue-Argument-clause-seen g c =
    let definition = c.index_mut-in-OfValue-Argument in
    block_same c.args.self.now c.in-OfValue-Argument.b c.content_mut-in-OfValue-Argument.result.now _ _ c.content_mut-in-OfValue-Argument.ensures.value (map-set_same typed _ c.in-OfValue-Argument.i _ definition.result.now (ap typed definition.ensures.value))

pub returns-in-OfBlock-clause-seen : goal.returns-in-OfBlock-clause-seen
returns-in-OfBlock-clause-seen g c = block_same c.args.self.now c.in-OfBlock.b c.content_mut-in-OfBlock.result.now _ _ c.content_mut-in-OfBlock.ensures.value refl

pub index_mut-requires : goal.index_mut-requires
index_mut-requires g c =
    let k = c.in-OfValue-Result in
    seen_within first_of refl _ k.i _ (result_at c.args.self.now k.p c.content_mut.result.now c.content_mut.ensures.value c.args.d k.i (k.is ∙ ap OfValue (rw k.is at k.field-0-is))) c.requires

pub index_mut-requires-in-OfValue-Argument : goal.index_mut-requires-in-OfValue-Argument
index_mut-requires-in-OfValue-Argument g c =
    let k = c.in-OfValue-Argument in
    let n = c.content_mut-in-OfValue-Argument in
    seen_within first_of refl _ k.i _ (argument_at c.args.self.now k.b n.result.now n.ensures.value c.args.d k.i (k.is ∙ ap OfValue (rw k.is at k.field-0-is))) c.requires

pub returns-in-OfValue-Result-clause-here : goal.returns-in-OfValue-Result-clause-here
returns-in-OfValue-Result-clause-here g c =
    let k = c.in-OfValue-Result in
    let n = c.content_mut in
    result_here c.args.self.now k.p n.result.now n.ensures.value k.i _ c.args.d (k.is ∙ ap OfValue (rw k.is at k.field-0-is)) (seen_within first_of refl _ k.i _ (result_at c.args.self.now k.p n.result.now n.ensures.value c.args.d k.i (k.is ∙ ap OfValue (rw k.is at k.field-0-is))) c.requires)

pub returns-in-OfValue-Argument-clause-here : goal.returns-in-OfValue-Argument-clause-here
returns-in-OfValue-Argument-clause-here g c =
    let k = c.in-OfValue-Argument in
    let n = c.content_mut-in-OfValue-Argument in
    argument_here c.args.self.now k.b n.result.now n.ensures.value k.i _ c.args.d (k.is ∙ ap OfValue (rw k.is at k.field-0-is)) (seen_within first_of refl _ k.i _ (argument_at c.args.self.now k.b n.result.now n.ensures.value c.args.d k.i (k.is ∙ ap OfValue (rw k.is at k.field-0-is))) c.requires)

pub returns-in-OfBlock-clause-here : goal.returns-in-OfBlock-clause-here
returns-in-OfBlock-clause-here g c = preds_here c.args.self.now c.in-OfBlock.b c.content_mut-in-OfBlock.result.now c.content_mut-in-OfBlock.ensures.value _ c.args.d c.in-OfBlock.is

pub returns-in-OfValue-Result-clause-others : goal.returns-in-OfValue-Result-clause-others
returns-in-OfValue-Result-clause-others g c =
    let k = c.in-OfValue-Result in
    result_others c.args.self.now k.p c.content_mut.result.now c.content_mut.ensures.value k.i _ c.args.d (k.is ∙ ap OfValue (rw k.is at k.field-0-is))

pub returns-in-OfValue-Argument-clause-others : goal.returns-in-OfValue-Argument-clause-others
returns-in-OfValue-Argument-clause-others g c =
    let k = c.in-OfValue-Argument in
    let n = c.content_mut-in-OfValue-Argument in
    argument_others c.args.self.now k.b n.result.now n.ensures.value k.i _ c.args.d (k.is ∙ ap OfValue (rw k.is at k.field-0-is))

pub returns-in-OfBlock-clause-others : goal.returns-in-OfBlock-clause-others
returns-in-OfBlock-clause-others g c = preds_others c.args.self.now c.in-OfBlock.b c.content_mut-in-OfBlock.result.now c.content_mut-in-OfBlock.ensures.value _ c.args.d c.in-OfBlock.is

pub returns-in-OfValue-Result-clause-uses : goal.returns-in-OfValue-Result-clause-uses
returns-in-OfValue-Result-clause-uses g c = uses_same c.args.self.now c.in-OfValue-Result.p c.content_mut.result.now c.content_mut.ensures.value _
