use Rattle.std.proofs.Common.{ap}
use Rattle.irtext_graph.specs.Erasing.{sibling}
use Rattle.irtext_graph.specs.declared.object.Defined.TheVariants.{OfValue}
use Rattle.irtext_graph.proofs.Indexed.{first_within}
use Rattle.irtext_graph.proofs.Puts.{result_at, argument_at}
use Rattle.irtext_graph.proofs.objects.Objects.value_count.Goals as goal

pub returns-in-Result : goal.returns-in-Result
returns-in-Result g c = λ i.
    let k = c.in-Result in
    let n = c.content in
    first_within n.result.now.data.results _ i c.len.result (result_at c.args.self.now k.p n.result.now n.ensures (OfValue (sibling c.args.v i)) i (ap OfValue (ap (λ v. sibling v i) k.is))) c.len.ensures

pub returns-in-Argument : goal.returns-in-Argument
returns-in-Argument g c = λ i.
    let k = c.in-Argument in
    let n = c.content-in-Argument in
    first_within n.result.now.data.arguments _ i c.len-in-Argument.result (argument_at c.args.self.now k.b n.result.now n.ensures (OfValue (sibling c.args.v i)) i (ap OfValue (ap (λ v. sibling v i) k.is))) c.len-in-Argument.ensures
