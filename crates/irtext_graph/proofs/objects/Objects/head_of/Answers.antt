use Rattle.std.proofs.Common.{◌≡◌, ◌∙◌, refl, ap, subst, Option, Some, None, IsSome}
use Rattle.irtext_graph.specs.declared.object.Value.{Value}
use Rattle.irtext_graph.specs.declared.object.Value.TheVariants.{Result, Argument}
use Rattle.irtext_graph.specs.declared.object.Defined.TheVariants.{OfValue}
use Rattle.irtext_graph.specs.declared.objects.Definition.{Definition}
use Rattle.irtext_graph.specs.declared.objects.Objects.{Objects}
use Rattle.irtext_graph.specs.Parts.{definition_at}
use Rattle.irtext_graph.specs.Uses.{first_of, head_at}
use Rattle.irtext_graph.proofs.objects.Objects.head_of.Goals as goal

head_is : {O B T : Type 0} (x : Objects O B T) (v : Value) → head_at x (OfValue v) ≡ first_of (definition_at x v)
head_is x (Result p i) = refl
head_is x (Argument p i) = refl

defined : {T : Type 0} (d : Option (Definition T)) → IsSome (first_of d) → IsSome d
defined None h = absurd (cc)
defined (Some d) h = refl

pub definition-requires : goal.definition-requires
definition-requires g c =
    let x = c.args.self.now in
    let k = c.in-OfValue in
    defined (definition_at x k.v) (subst (λ o. IsSome o) (head_is x k.v) (subst (λ d. IsSome (head_at x d)) k.is c.requires))

pub returns-in-OfValue : goal.returns-in-OfValue
returns-in-OfValue g c =
    let x = c.args.self.now in
    let k = c.in-OfValue in
    ap (head_at x) k.is ∙ head_is x k.v ∙ ap first_of c.definition.ensures
