use Rattle.std.proofs.Common.{refl, ap}
use Rattle.std.proofs.Math.Seq.{map-set_same}
use Rattle.irtext_graph.specs.Uses.{relinked}
use Rattle.irtext_graph.proofs.Fields.{operation_same}
use Rattle.irtext_graph.proofs.Puts.{operand_within, successor_within, operand_here, operand_others, successor_here, successor_others, heads_same}
use Rattle.irtext_graph.proofs.objects.Objects.set_links.Goals as goal

pub returns-in-AtOperand-clause-seen : goal.returns-in-AtOperand-clause-seen
returns-in-AtOperand-clause-seen g c =
    let o = c.index_mut in
    operation_same c.args.self.now c.in-AtOperand.p c.content_mut.result.now _ _ _ c.content_mut.ensures.value (map-set_same (λ u. u.def) _ c.in-AtOperand.i _ o.result.now (ap (λ u. u.def) o.ensures.value)) refl refl

pub returns-in-AtSuccessor-clause-seen : goal.returns-in-AtSuccessor-clause-seen
returns-in-AtSuccessor-clause-seen g c =
    let o = c.index_mut-in-AtSuccessor in
    operation_same c.args.self.now c.in-AtSuccessor.p c.content_mut-in-AtSuccessor.result.now _ _ _ c.content_mut-in-AtSuccessor.ensures.value refl (map-set_same (λ u. u.def) _ c.in-AtSuccessor.i _ o.result.now (ap (λ u. u.def) o.ensures.value)) refl

pub returns-in-AtOperand-clause-here : goal.returns-in-AtOperand-clause-here
returns-in-AtOperand-clause-here g c =
    let o = c.index_mut in
    operand_here c.args.self.now c.in-AtOperand.p c.content_mut.result.now c.content_mut.ensures.value c.args.u c.in-AtOperand.i c.in-AtOperand.is o.result.now _ (relinked c.args.links) o.ensures.value refl

pub returns-in-AtSuccessor-clause-here : goal.returns-in-AtSuccessor-clause-here
returns-in-AtSuccessor-clause-here g c =
    let o = c.index_mut-in-AtSuccessor in
    successor_here c.args.self.now c.in-AtSuccessor.p c.content_mut-in-AtSuccessor.result.now c.content_mut-in-AtSuccessor.ensures.value c.args.u c.in-AtSuccessor.i c.in-AtSuccessor.is o.result.now _ (relinked c.args.links) o.ensures.value refl

pub returns-in-AtOperand-clause-others : goal.returns-in-AtOperand-clause-others
returns-in-AtOperand-clause-others g c =
    operand_others c.args.self.now c.in-AtOperand.p c.content_mut.result.now c.content_mut.ensures.value c.args.u c.in-AtOperand.i c.in-AtOperand.is _

pub returns-in-AtSuccessor-clause-others : goal.returns-in-AtSuccessor-clause-others
returns-in-AtSuccessor-clause-others g c =
    successor_others c.args.self.now c.in-AtSuccessor.p c.content_mut-in-AtSuccessor.result.now c.content_mut-in-AtSuccessor.ensures.value c.args.u c.in-AtSuccessor.i c.in-AtSuccessor.is _

pub returns-in-AtOperand-clause-heads : goal.returns-in-AtOperand-clause-heads
returns-in-AtOperand-clause-heads g c = heads_same c.args.self.now c.in-AtOperand.p c.content_mut.result.now c.content_mut.ensures.value _ _

pub returns-in-AtSuccessor-clause-heads : goal.returns-in-AtSuccessor-clause-heads
returns-in-AtSuccessor-clause-heads g c = heads_same c.args.self.now c.in-AtSuccessor.p c.content_mut-in-AtSuccessor.result.now c.content_mut-in-AtSuccessor.ensures.value _ _

pub index_mut-requires : goal.index_mut-requires
index_mut-requires g c = operand_within c.args.self.now c.in-AtOperand.p c.content_mut.result.now c.content_mut.ensures.value c.args.u c.in-AtOperand.i c.in-AtOperand.is c.requires

pub index_mut-requires-in-AtSuccessor : goal.index_mut-requires-in-AtSuccessor
index_mut-requires-in-AtSuccessor g c = successor_within c.args.self.now c.in-AtSuccessor.p c.content_mut-in-AtSuccessor.result.now c.content_mut-in-AtSuccessor.ensures.value c.args.u c.in-AtSuccessor.i c.in-AtSuccessor.is c.requires
