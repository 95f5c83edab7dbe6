use Rattle.std.proofs.Common.{refl}
use Rattle.irtext_graph.proofs.Puts.{result_defined, argument_defined, seen_is, seen_within}
use Rattle.irtext_graph.proofs.objects.Objects.definition.Goals as goal

pub index-requires : goal.index-requires
index-requires g c =
    let k = c.in-Result in
    seen_within (λ s. s) refl _ k.i _ (result_defined c.args.self.now k.p c.content.result.now c.content.ensures c.args.v k.i k.is) c.requires

pub index-requires-in-Argument : goal.index-requires-in-Argument
index-requires-in-Argument g c =
    let k = c.in-Argument in
    let n = c.content-in-Argument in
    seen_within (λ s. s) refl _ k.i _ (argument_defined c.args.self.now k.p n.result.now n.ensures c.args.v k.i k.is) c.requires

pub returns-in-Result : goal.returns-in-Result
returns-in-Result g c =
    let k = c.in-Result in
    seen_is (λ s. s) refl _ k.i _ (result_defined c.args.self.now k.p c.content.result.now c.content.ensures c.args.v k.i k.is) c.requires c.index.result.now c.index.ensures

pub returns-in-Argument : goal.returns-in-Argument
returns-in-Argument g c =
    let k = c.in-Argument in
    let n = c.content-in-Argument in
    let d = c.index-in-Argument in
    seen_is (λ s. s) refl _ k.i _ (argument_defined c.args.self.now k.p n.result.now n.ensures c.args.v k.i k.is) c.requires d.result.now d.ensures
