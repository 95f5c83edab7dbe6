-- One field of a use or of a definition is set: what is seen of the objects is the same.
use Rattle.std.proofs.Common.{◌≡◌, refl, ap, List, Some, Option, map}
use Rattle.std.specs.Option.{option_map}
use Rattle.irtext_graph.specs.declared.arena.Ptr.{Ptr}
use Rattle.irtext_graph.specs.declared.nest.Nest.{Nest}
use Rattle.irtext_graph.specs.declared.object.Operation.{Operation}
use Rattle.irtext_graph.specs.declared.object.BasicBlock.{BasicBlock}
use Rattle.irtext_graph.specs.declared.object.Region.{Region}
use Rattle.irtext_graph.specs.declared.object.Site.{Site}
use Rattle.irtext_graph.specs.declared.object.Value.{Value}
use Rattle.irtext_graph.specs.declared.objects.BlockData.{BlockData}
use Rattle.irtext_graph.specs.declared.objects.Definition.{Definition}
use Rattle.irtext_graph.specs.declared.objects.Objects.{Objects}
use Rattle.irtext_graph.specs.declared.objects.OperationData.{OperationData}
use Rattle.irtext_graph.specs.declared.objects.Use.{Use}
use Rattle.irtext_graph.specs.Arena.{get}
use Rattle.irtext_graph.specs.Content.{node_of, operation_content, block_content, typed}
use Rattle.irtext_graph.specs.Graph.{seen}
use Rattle.irtext_graph.specs.Lending.{with_content_at}
use Rattle.irtext_graph.proofs.Stores.{content_same}

module _ {O B T : Type 0} (x : Objects O B T) where
  -- an operation has other links and first uses
  pub operation_same : (p : Ptr Operation) (n : Nest BasicBlock Region (OperationData O T)) (us : List (Use Value)) (ss : List (Use (Ptr BasicBlock))) (rs : List (Definition T))
      → option_map (λ o. o.content) (get x.operations p) ≡ Some n → map (λ u. u.def) us ≡ map (λ u. u.def) n.data.operands → map (λ u. u.def) ss ≡ map (λ u. u.def) n.data.successors → map typed rs ≡ map typed n.data.results
      → seen (record x { operations = with_content_at x.operations p.index (record n { «data» = record n.data { operands = us; successors = ss; results = rs } }) }) ≡ seen x
  operation_same p n us ss rs e a b c = ap (λ s. record (seen x) { operations = s }) (content_same (node_of operation_content) x.operations p n _ e (rw (a, b, c) refl))

  -- a block has other first uses
  pub block_same : (p : Ptr BasicBlock) (n : Nest Region Operation (BlockData B T)) (ds : List (Definition T)) (first : Option Site)
      → option_map (λ o. o.content) (get x.blocks p) ≡ Some n → map typed ds ≡ map typed n.data.arguments
      → seen (record x { blocks = with_content_at x.blocks p.index (record n { «data» = record n.data { arguments = ds; preds = first } }) }) ≡ seen x
  block_same p n ds first e a = ap (λ s. record (seen x) { blocks = s }) (content_same (node_of block_content) x.blocks p n _ e (rw a refl))
