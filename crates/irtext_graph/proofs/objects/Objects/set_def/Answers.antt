use Rattle.std.proofs.Common.{refl, ap, sym}
use Rattle.irtext_graph.specs.Used.{bare}
use Rattle.irtext_graph.specs.declared.object.Defined.{Defined}
use Rattle.irtext_graph.specs.Uses.{renamed}
use Rattle.irtext_graph.proofs.Fewer.{bare_same, operand_fewer, successor_fewer}
use Rattle.irtext_graph.proofs.Puts.{operand_within, successor_within, operand_here, operand_others, successor_here, successor_others, heads_same}
use Rattle.irtext_graph.proofs.objects.Objects.set_def.Goals as goal

pub returns-in-AtOperand-OfValue-clause-bare : goal.returns-in-AtOperand-OfValue-clause-bare
returns-in-AtOperand-OfValue-clause-bare g c =
    ap (λ s. record (bare c.args.self.now) { operations = s }) (bare_same c.args.self.now.operations c.in-AtOperand-OfValue.p c.content_mut.result.now _ c.content_mut.ensures.value refl)

pub returns-in-AtSuccessor-OfBlock-clause-bare : goal.returns-in-AtSuccessor-OfBlock-clause-bare
returns-in-AtSuccessor-OfBlock-clause-bare g c =
    ap (λ s. record (bare c.args.self.now) { operations = s }) (bare_same c.args.self.now.operations c.in-AtSuccessor-OfBlock.p c.content_mut-in-AtSuccessor-OfBlock.result.now _ c.content_mut-in-AtSuccessor-OfBlock.ensures.value refl)

pub returns-in-AtOperand-OfValue-clause-fewer : goal.returns-in-AtOperand-OfValue-clause-fewer
returns-in-AtOperand-OfValue-clause-fewer g c =
    let k = c.in-AtOperand-OfValue in
    operand_fewer c.args.self.now k.p c.content_mut.result.now c.content_mut.ensures.value c.args.u k.i c.args.d c.index_mut.result.now k.v k.is-0 k.is-1 c.index_mut.ensures.value

pub returns-in-AtSuccessor-OfBlock-clause-fewer : goal.returns-in-AtSuccessor-OfBlock-clause-fewer
returns-in-AtSuccessor-OfBlock-clause-fewer g c =
    let k = c.in-AtSuccessor-OfBlock in
    successor_fewer c.args.self.now k.p c.content_mut-in-AtSuccessor-OfBlock.result.now c.content_mut-in-AtSuccessor-OfBlock.ensures.value c.args.u k.i c.args.d c.index_mut-in-AtSuccessor-OfBlock.result.now k.b k.is-0 k.is-1 c.index_mut-in-AtSuccessor-OfBlock.ensures.value

pub returns-in-AtOperand-OfValue-clause-here : goal.returns-in-AtOperand-OfValue-clause-here
returns-in-AtOperand-OfValue-clause-here g c =
    let k = c.in-AtOperand-OfValue in
    let o = c.index_mut in
    operand_here c.args.self.now k.p c.content_mut.result.now c.content_mut.ensures.value c.args.u k.i k.is-0 o.result.now _ (renamed c.args.d) o.ensures.value (ap (λ (d : Defined). record { def = d; links = o.result.now.links }) (sym k.is-1))

pub returns-in-AtSuccessor-OfBlock-clause-here : goal.returns-in-AtSuccessor-OfBlock-clause-here
returns-in-AtSuccessor-OfBlock-clause-here g c =
    let k = c.in-AtSuccessor-OfBlock in
    let o = c.index_mut-in-AtSuccessor-OfBlock in
    successor_here c.args.self.now k.p c.content_mut-in-AtSuccessor-OfBlock.result.now c.content_mut-in-AtSuccessor-OfBlock.ensures.value c.args.u k.i k.is-0 o.result.now _ (renamed c.args.d) o.ensures.value (ap (λ (d : Defined). record { def = d; links = o.result.now.links }) (sym k.is-1))

pub returns-in-AtOperand-OfValue-clause-others : goal.returns-in-AtOperand-OfValue-clause-others
returns-in-AtOperand-OfValue-clause-others g c =
    let k = c.in-AtOperand-OfValue in
    operand_others c.args.self.now k.p c.content_mut.result.now c.content_mut.ensures.value c.args.u k.i k.is-0 _

pub returns-in-AtSuccessor-OfBlock-clause-others : goal.returns-in-AtSuccessor-OfBlock-clause-others
returns-in-AtSuccessor-OfBlock-clause-others g c =
    let k = c.in-AtSuccessor-OfBlock in
    successor_others c.args.self.now k.p c.content_mut-in-AtSuccessor-OfBlock.result.now c.content_mut-in-AtSuccessor-OfBlock.ensures.value c.args.u k.i k.is-0 _

pub returns-in-AtOperand-OfValue-clause-heads : goal.returns-in-AtOperand-OfValue-clause-heads
returns-in-AtOperand-OfValue-clause-heads g c = heads_same c.args.self.now c.in-AtOperand-OfValue.p c.content_mut.result.now c.content_mut.ensures.value _ _

pub returns-in-AtSuccessor-OfBlock-clause-heads : goal.returns-in-AtSuccessor-OfBlock-clause-heads
returns-in-AtSuccessor-OfBlock-clause-heads g c = heads_same c.args.self.now c.in-AtSuccessor-OfBlock.p c.content_mut-in-AtSuccessor-OfBlock.result.now c.content_mut-in-AtSuccessor-OfBlock.ensures.value _ _

pub index_mut-requires : goal.index_mut-requires
index_mut-requires g c = operand_within c.args.self.now c.in-AtOperand-OfValue.p c.content_mut.result.now c.content_mut.ensures.value c.args.u c.in-AtOperand-OfValue.i c.in-AtOperand-OfValue.is-0 c.requires.there

pub index_mut-requires-in-AtSuccessor-OfBlock : goal.index_mut-requires-in-AtSuccessor-OfBlock
index_mut-requires-in-AtSuccessor-OfBlock g c = successor_within c.args.self.now c.in-AtSuccessor-OfBlock.p c.content_mut-in-AtSuccessor-OfBlock.result.now c.content_mut-in-AtSuccessor-OfBlock.ensures.value c.args.u c.in-AtSuccessor-OfBlock.i c.in-AtSuccessor-OfBlock.is-0 c.requires.there
