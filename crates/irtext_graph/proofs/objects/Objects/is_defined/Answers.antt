use Rattle.std.proofs.Common.{◌∙◌, sym, ap}
use Rattle.std.specs.Prelude.{option_copied}
use Rattle.std.specs.Option.{option_map}
use Rattle.irtext_graph.proofs.Indexed.{is_within}
use Rattle.irtext_graph.proofs.Puts.{result_defined, argument_defined}
use Rattle.irtext_graph.proofs.objects.Objects.is_defined.Goals as goal

pub returns-in-Some : goal.returns-in-Some
returns-in-Some g c =
    let k = c.in-Result in
    let n = c.in-Some.e.now.content in
    is_within n.data.results _ k.i c.len.result (result_defined c.args.self.now k.p n (ap (option_map (λ o. o.content)) (sym c.get.ensures ∙ ap option_copied c.in-Some.is)) c.args.v k.i k.is) c.len.ensures

pub returns-in-Some-get : goal.returns-in-Some-get
returns-in-Some-get g c =
    let k = c.in-Argument in
    let s = c.in-Some-get in
    let n = s.e.now.content in
    is_within n.data.arguments _ k.i c.len-in-Some-get.result (argument_defined c.args.self.now k.p n (ap (option_map (λ o. o.content)) (sym c.get-in-Argument.ensures ∙ ap option_copied s.is)) c.args.v k.i k.is) c.len-in-Some-get.ensures
