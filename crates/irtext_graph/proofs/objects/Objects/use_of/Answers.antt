use Rattle.std.proofs.Common.{refl, option_map}
use Rattle.irtext_graph.specs.declared.object.Defined.TheVariants.{OfValue, OfBlock}
use Rattle.irtext_graph.specs.Uses.{either}
use Rattle.irtext_graph.proofs.Puts.{operand_at, operand_within, successor_at, successor_within, seen_is}
use Rattle.irtext_graph.proofs.objects.Objects.use_of.Goals as goal

pub index-o-requires : goal.index-o-requires
index-o-requires g c = operand_within c.args.self.now c.in-AtOperand.p c.content.result.now c.content.ensures c.args.u c.in-AtOperand.i c.in-AtOperand.is c.requires

pub index-o-requires-in-AtSuccessor : goal.index-o-requires-in-AtSuccessor
index-o-requires-in-AtSuccessor g c = let n = c.content-in-AtSuccessor in successor_within c.args.self.now c.in-AtSuccessor.p n.result.now n.ensures c.args.u c.in-AtSuccessor.i c.in-AtSuccessor.is c.requires

pub returns-in-AtOperand : goal.returns-in-AtOperand
returns-in-AtOperand g c =
    let at = operand_at c.args.self.now c.in-AtOperand.p c.content.result.now c.content.ensures c.args.u c.in-AtOperand.i c.in-AtOperand.is in
    seen_is (option_map (either OfValue)) refl _ c.in-AtOperand.i _ at c.requires c.index-o.result.now c.index-o.ensures

pub returns-in-AtSuccessor : goal.returns-in-AtSuccessor
returns-in-AtSuccessor g c =
    let n = c.content-in-AtSuccessor in
    let o = c.index-o-in-AtSuccessor in
    let at = successor_at c.args.self.now c.in-AtSuccessor.p n.result.now n.ensures c.args.u c.in-AtSuccessor.i c.in-AtSuccessor.is in
    seen_is (option_map (either OfBlock)) refl _ c.in-AtSuccessor.i _ at c.requires o.result.now o.ensures
