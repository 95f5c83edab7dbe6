-- What the view says of an object's parts is what the arenas hold.
use Rattle.std.proofs.Common.{◌≡◌, ◌<◌, ◌∙◌, ℕ, refl, ap, arith, Option, Some, None, length, slice_get, get_or, IsSome}
use Rattle.std.specs.Option.{option_map}
use Rattle.std.proofs.lemmas.List.{length-map}
use Rattle.std.proofs.lemmas.Option.{slice_get-map, slice_get_read}
use Rattle.irtext_graph.specs.declared.graph.Counters.{Counters}
use Rattle.irtext_graph.specs.Arena as arena
use Rattle.irtext_graph.specs.declared.arena.Entry.{Entry}
use Rattle.irtext_graph.specs.declared.arena.Ptr.{Ptr}
use Rattle.irtext_graph.specs.declared.nest.Nest.{Nest}
use Rattle.irtext_graph.specs.declared.object.Operation.{Operation}
use Rattle.irtext_graph.specs.declared.object.BasicBlock.{BasicBlock}
use Rattle.irtext_graph.specs.declared.object.Region.{Region}
use Rattle.irtext_graph.specs.declared.object.Object.TheVariants.{TheOperation, TheBlock}
use Rattle.irtext_graph.specs.declared.object.Value.{Value}
use Rattle.irtext_graph.specs.declared.object.Value.TheVariants.{Result, Argument}
use Rattle.irtext_graph.specs.declared.objects.Objects.{Objects}
use Rattle.irtext_graph.specs.declared.objects.OperationData.{OperationData}
use Rattle.irtext_graph.specs.declared.objects.BlockData.{BlockData}
use Rattle.irtext_graph.specs.declared.objects.Use.{Use}
use Rattle.irtext_graph.specs.declared.arena.Arena.{Arena}
use Rattle.irtext_graph.specs.Store.{store_of, get, object_of}
use Rattle.irtext_graph.specs.Nest.{datum_in}
use Rattle.irtext_graph.specs.Content.{node_of, typed, operation_content, block_content}
use Rattle.irtext_graph.specs.Graph.{graph_of, IsLive}
use Rattle.irtext_graph.specs.Uses.{result_in, argument_in}
use Rattle.irtext_graph.specs.Parts.{operation_at, block_at, operands_of, successors_of, results_of, arguments_of, operands, successors, results, arguments, value_at, IsDefinedValue, definition_at}
use Rattle.irtext_graph.proofs.Stores.{get_seen, seen_mapped}
use Rattle.irtext_graph.proofs.Views.{lives_at}

pub some_of : {A V : Type 0} (f : A → V) (o : Option A) → IsSome (option_map f o) → IsSome o
some_of f None h = h
some_of f (Some a) h = refl

pub of_some : {A V : Type 0} (f : A → V) (o : Option A) → IsSome o → IsSome (option_map f o)
of_some f None h = h
of_some f (Some a) h = refl

there : {P C D : Type 0} (e : Option (Entry (Nest P C D))) → IsSome (datum_in e) → IsSome e
there None h = h
there (Some e) h = refl

module _ {P C D E : Type 0} (see : D → E) where
  -- the view of a live object is the view of its data
  pub seen_of : {K : Type 0} (a : Arena (Nest P C D)) (p : Ptr K) → option_map (λ e. e.content.content) (get (store_of (node_of see) a) p) ≡ option_map (λ o. see o.content.data) (arena.get a p)
  seen_of a p = ap (option_map (λ e. e.content.content)) (get_seen (node_of see) a p) ∙ seen_mapped (object_of (node_of see)) (option_map (λ e. e.content.content)) (option_map (λ o. see o.content.data)) refl (λ o. refl) (arena.get a p)

  -- the same by the content
  seen_by : (s : Option (Entry (Nest P C D))) (n : Nest P C D) → option_map (λ o. o.content) s ≡ Some n → option_map (λ o. see o.content.data) s ≡ Some (see n.data)
  seen_by None n e = absurd (cc)
  seen_by (Some o) n e = let same : o.content ≡ n = cc in ap (λ n. Some (see n.data)) same

module _ {O B T : Type 0} (m : ℕ) (v : Counters) (x : Objects O B T) where
  pub operation_seen : (p : Ptr Operation) (n : Nest BasicBlock Region (OperationData O T)) → option_map (λ o. o.content) (arena.get x.operations p) ≡ Some n → operation_at (graph_of m v x) p ≡ Some (operation_content n.data)
  operation_seen p n e = seen_of operation_content x.operations p ∙ seen_by operation_content (arena.get x.operations p) n e

  pub block_seen : (p : Ptr BasicBlock) (n : Nest Region Operation (BlockData B T)) → option_map (λ o. o.content) (arena.get x.blocks p) ≡ Some n → block_at (graph_of m v x) p ≡ Some (block_content n.data)
  block_seen p n e = seen_of block_content x.blocks p ∙ seen_by block_content (arena.get x.blocks p) n e

  -- the parts of an operation are as many as its data hold, and are seen in their order
  module _ (p : Ptr Operation) (n : Nest BasicBlock Region (OperationData O T)) (e : option_map (λ o. o.content) (arena.get x.operations p) ≡ Some n) where
    pub result_count : length (results (graph_of m v x) p) ≡ length n.data.results
    result_count = ap (λ c. length (results_of c)) (operation_seen p n e) ∙ length-map n.data.results typed

    pub operand_count : length (operands (graph_of m v x) p) ≡ length n.data.operands
    operand_count = ap (λ c. length (operands_of c)) (operation_seen p n e) ∙ length-map n.data.operands (λ u. u.def)

    pub successor_count : length (successors (graph_of m v x) p) ≡ length n.data.successors
    successor_count = ap (λ c. length (successors_of c)) (operation_seen p n e) ∙ length-map n.data.successors (λ u. u.def)

    pub operand_seen : (i : ℕ) → slice_get (operands (graph_of m v x) p) i ≡ option_map (λ u. u.def) (slice_get n.data.operands i)
    operand_seen i = ap (λ c. slice_get (operands_of c) i) (operation_seen p n e) ∙ slice_get-map (λ u. u.def) n.data.operands i

    pub operand_read : (i : ℕ) (u : Use (Value)) → i < length (operands (graph_of m v x) p) → u ≡ get_or n.data.operands i u → slice_get (operands (graph_of m v x) p) i ≡ Some u.def
    operand_read i u low read = let k = operand_count in operand_seen i ∙ ap (option_map (λ u. u.def)) (slice_get_read n.data.operands (length n.data.operands) i u refl (omega (arith, low, k)) read)

    pub successor_seen : (i : ℕ) → slice_get (successors (graph_of m v x) p) i ≡ option_map (λ u. u.def) (slice_get n.data.successors i)
    successor_seen i = ap (λ c. slice_get (successors_of c) i) (operation_seen p n e) ∙ slice_get-map (λ u. u.def) n.data.successors i

    pub successor_read : (i : ℕ) (u : Use (Ptr BasicBlock)) → i < length (successors (graph_of m v x) p) → u ≡ get_or n.data.successors i u → slice_get (successors (graph_of m v x) p) i ≡ Some u.def
    successor_read i u low read = let k = successor_count in successor_seen i ∙ ap (option_map (λ u. u.def)) (slice_get_read n.data.successors (length n.data.successors) i u refl (omega (arith, low, k)) read)

  pub argument_count : (p : Ptr BasicBlock) (n : Nest Region Operation (BlockData B T)) → option_map (λ o. o.content) (arena.get x.blocks p) ≡ Some n → length (arguments (graph_of m v x) p) ≡ length n.data.arguments
  argument_count p n e = ap (λ c. length (arguments_of c)) (block_seen p n e) ∙ length-map n.data.arguments typed

  -- a value's type and number are those of its definition
  pub value_seen : (d : Value) → value_at (graph_of m v x) d ≡ option_map typed (definition_at x d)
  value_seen (Result p i) = ap (λ c. slice_get (results_of c) i) (seen_of operation_content x.operations p) ∙ go (arena.get x.operations p)
    where
      go : (s : Option (Entry (Nest BasicBlock Region (OperationData O T)))) → slice_get (results_of (option_map (λ o. operation_content o.content.data) s)) i ≡ option_map typed (result_in s i)
      go None = refl
      go (Some o) = slice_get-map typed o.content.data.results i
  value_seen (Argument p i) = ap (λ c. slice_get (arguments_of c) i) (seen_of block_content x.blocks p) ∙ go (arena.get x.blocks p)
    where
      go : (s : Option (Entry (Nest Region Operation (BlockData B T)))) → slice_get (arguments_of (option_map (λ o. block_content o.content.data) s)) i ≡ option_map typed (argument_in s i)
      go None = refl
      go (Some o) = slice_get-map typed o.content.data.arguments i

  pub operation_there : (p : Ptr Operation) → IsLive (graph_of m v x) (TheOperation p) → IsSome (arena.get x.operations p)
  operation_there p s = there (arena.get x.operations p) (some_of _ _ (lives_at m v x (TheOperation p) s))

  pub block_there : (p : Ptr BasicBlock) → IsLive (graph_of m v x) (TheBlock p) → IsSome (arena.get x.blocks p)
  block_there p s = there (arena.get x.blocks p) (some_of _ _ (lives_at m v x (TheBlock p) s))

  pub value_there : (d : Value) → IsDefinedValue (graph_of m v x) d → IsSome (definition_at x d)
  value_there d s = some_of typed _ (rw (value_seen d) at s)

  pub value_is_defined : (d : Value) → IsSome (definition_at x d) → IsDefinedValue (graph_of m v x) d
  value_is_defined d s = rw (value_seen d) (of_some typed _ s)
