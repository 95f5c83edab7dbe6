use Rattle.std.proofs.Common.{◌∙◌, ap, refl, sym}
use Rattle.irtext_graph.specs.Nest.{datum_in}
use Rattle.irtext_graph.specs.declared.object.Object.TheVariants.{TheOperation}
use Rattle.irtext_graph.proofs.objects.Objects.vacate.Goals as goal

pub returns-in-TheOperation-clause-data : goal.returns-in-TheOperation-clause-data
returns-in-TheOperation-clause-data g c = λ q ne. record {
  operation = λ p e. ap datum_in (c.vacate.ensures.others p (λ s. ne (e ∙ ap TheOperation s ∙ sym c.in-TheOperation.is)));
  block = λ p e. refl;
}
