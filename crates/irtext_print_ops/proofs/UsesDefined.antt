-- What an operation uses is there.
use Rattle.std.proofs.Common.{◌≡◌, ℕ, ap, subst, Some, slice_get}
use Rattle.std.specs.Option.{option_map}
use Rattle.irtext_graph.specs.Graph.{GraphView}
use Rattle.irtext_graph.specs.Parts.{operands, IsDefinedValue}
use Rattle.irtext_graph.specs.Used.{IsUse, IsDefined}
use Rattle.irtext_graph.specs.declared.arena.Ptr.{Ptr}
use Rattle.irtext_graph.specs.declared.object.Defined.{Defined}
use Rattle.irtext_graph.specs.declared.object.Defined.TheVariants.{OfValue}
use Rattle.irtext_graph.specs.declared.object.Operation.{Operation}
use Rattle.irtext_graph.specs.declared.object.Site.{Site}
use Rattle.irtext_graph.specs.declared.object.Site.TheVariants.{AtOperand}
use Rattle.irtext_graph.specs.declared.object.Value.{Value}

-- the values that an operation uses, in a graph in which all that is used is there
pub all_defined : {O B T : Type 0} (x g : GraphView O B T) (p : Ptr Operation) → x ≡ g → ((u : Site) (d : Defined) → IsUse x d u → IsDefined x d) → (i : ℕ) (v : Value) → slice_get (operands g p) i ≡ Some v → IsDefinedValue g v
all_defined x g p e uses = subst (λ z. (i : ℕ) (v : Value) → slice_get (operands z p) i ≡ Some v → IsDefinedValue z v) e (λ i v at. uses (AtOperand p i) (OfValue v) (ap (option_map OfValue) at))
