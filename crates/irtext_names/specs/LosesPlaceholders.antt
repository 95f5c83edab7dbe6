-- Between functions: what stays as it is when names are defined: everything but placeholders.
use Rattle.std.specs.Prelude.{◌≡◌, ℕ, Option, Some, None, IsSome, length, ⊤}
use Rattle.std.specs.Option.{option_map}
use Rattle.irtext_graph.specs.declared.arena.Ptr.{Ptr}
use Rattle.irtext_graph.specs.declared.object.BasicBlock.{BasicBlock}
use Rattle.irtext_graph.specs.declared.object.Operation.{Operation}
use Rattle.irtext_graph.specs.declared.object.Region.{Region}
use Rattle.irtext_graph.specs.declared.object.Object.{Object}
use Rattle.irtext_graph.specs.declared.object.Object.TheVariants.{TheOperation, TheBlock, TheRegion}
use Rattle.irtext_graph.specs.declared.object.Value.TheVariants.{Result}
use Rattle.irtext_graph.specs.declared.object.Defined.TheVariants.{OfValue}
use Rattle.irtext_graph.specs.Erasing.{without_uses}
use Rattle.irtext_graph.specs.Graph.{GraphView, IsLive, IsNew, content, parent, children}
use Rattle.irtext_graph.specs.Parts.{operation_at, results}
use Rattle.irtext_graph.specs.Used.{IsDefined}
use Rattle.irtext_grammar.specs.Unchanged.{UsesAsMany}

module _ {O B T : Type 0} where
  -- the object is no placeholder: an operation that has data, a block that has a parent, or a region
  abbrev pub IsPlaced : GraphView (Option O) B T → Object → Type 0
  IsPlaced g (TheOperation p) = (x : O) × (option_map (λ c. c.data_of) (operation_at g p) ≡ Some (Some x))
  IsPlaced g (TheBlock b) = IsLive g (TheBlock b) × IsSome (parent g (TheBlock b))
  IsPlaced g (TheRegion r) = IsLive g (TheRegion r)

  -- if the object is an operation, it has the same number of operands and successors
  abbrev pub HasAsMany : GraphView (Option O) B T → GraphView (Option O) B T → Object → Type 0
  HasAsMany g k (TheOperation p) = UsesAsMany g k p
  HasAsMany g k (TheBlock b) = ⊤
  HasAsMany g k (TheRegion r) = ⊤

  -- the object is the same apart from what it uses; it has the same number of uses, the same children and the same parent
  pub record StaysAlike (g k : GraphView (Option O) B T) (q : Object) : Type 0 where
    pub contents : option_map without_uses (content k q) ≡ option_map without_uses (content g q)
    pub as_many : HasAsMany g k q
    pub parents : parent k q ≡ parent g q
    pub lists : children k q ≡ children g q

  -- of what was created since a count, each operation without data has a result, as the placeholders of values have
  abbrev pub BlanksHaveResults : ℕ → GraphView (Option O) B T → Type 0
  BlanksHaveResults m g = (p : Ptr Operation) → option_map (λ c. c.data_of) (operation_at g p) ≡ Some None → IsNew m g (TheOperation p) → (i : ℕ) × IsDefined g (OfValue (Result p i))

  -- What is no placeholder is unchanged: each operation that has data has the same data and the same number of results; each block that
  -- has a parent has the same parent; each region is live. All of these have the same children, and no other such object was added. What
  -- was created since a count still was. Each operation without data has a result if that was so before.
  pub record LosesPlaceholders (g k : GraphView (Option O) B T) : Type 0 where
    pub operations : (p : Ptr Operation) (x : O) → option_map (λ c. c.data_of) (operation_at g p) ≡ Some (Some x) → option_map (λ c. c.data_of) (operation_at k p) ≡ Some (Some x)
    pub results : (p : Ptr Operation) (x : O) → option_map (λ c. c.data_of) (operation_at g p) ≡ Some (Some x) → length (results k p) ≡ length (results g p)
    pub blocks : (b : Ptr BasicBlock) (o : Object) → parent g (TheBlock b) ≡ Some o → (parent k (TheBlock b) ≡ Some o) × (IsLive g (TheBlock b) → IsLive k (TheBlock b))
    pub regions : (r : Ptr Region) → IsLive g (TheRegion r) → IsLive k (TheRegion r)
    pub newer : (m : ℕ) (q : Object) → IsNew m g q → IsNew m k q
    pub made : k.made ≡ g.made
    pub alike : (q : Object) → IsPlaced g q → StaysAlike g k q
    pub brought : (q : Object) → IsPlaced k q → IsPlaced g q
    pub blanks : (m : ℕ) → BlanksHaveResults m g → BlanksHaveResults m k
