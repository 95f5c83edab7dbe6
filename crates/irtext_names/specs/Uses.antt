-- Between functions: names that are used, and what that leaves as it is.
use Rattle.std.specs.Prelude.{◌≡◌, ◌≤◌, ℕ, List, Option, Some, length, slice_get}
use Rattle.std.specs.Option.{option_map}
use Rattle.irtext_graph.specs.declared.arena.Ptr.{Ptr}
use Rattle.irtext_graph.specs.declared.object.BasicBlock.{BasicBlock}
use Rattle.irtext_graph.specs.declared.object.Object.{Object}
use Rattle.irtext_graph.specs.declared.object.Object.TheVariants.{TheBlock, TheRegion}
use Rattle.irtext_graph.specs.declared.object.Operation.{Operation}
use Rattle.irtext_graph.specs.declared.object.Region.{Region}
use Rattle.irtext_graph.specs.declared.object.Defined.{Defined}
use Rattle.irtext_graph.specs.Graph.{GraphView, KeepsOlder, IsLive, parent}
use Rattle.irtext_graph.specs.Parts.{operation_at}
use Rattle.irtext_graph.specs.Used.{IsDefined}
use Rattle.irtext_grammar.specs.Names.Script.{User}
use Rattle.irtext_grammar.specs.Names.TextScopes.{Act, Word}
use Rattle.irtext_names.specs.Linked.{TakesUse}
use Rattle.irtext_names.specs.Tied.{MatchesGraph, ArePending}
use Rattle.irtext_names.specs.LosesPlaceholders.{BlanksHaveResults}
use Rattle.irtext_names.specs.Items.{Names}

module _ {O B T : Type 0} where
  -- Nothing but placeholders was added: each operation that has data had it, each block that has a parent had the same parent, and each
  -- region was live.
  pub record BringsNone (g k : GraphView (Option O) B T) : Type 0 where
    pub operations : (p : Ptr Operation) (x : O) → option_map (λ c. c.data_of) (operation_at k p) ≡ Some (Some x) → option_map (λ c. c.data_of) (operation_at g p) ≡ Some (Some x)
    pub blocks : (b : Ptr BasicBlock) (o : Object) → parent k (TheBlock b) ≡ Some o → parent g (TheBlock b) ≡ Some o
    pub regions : (r : Ptr Region) → IsLive k (TheRegion r) → IsLive g (TheRegion r)

  -- The names are the same, as many scopes are open, and names and graph are still tied; what is older is unchanged, nothing but
  -- placeholders was added, and each operation without data has a result if that was so before.
  pub record KeepsScopes (old new : Names) (g k : GraphView (Option O) B T) : Type 0 where
    pub names : new.names ≡ old.names
    pub values : length new.values ≡ length old.values
    pub labels : length new.labels ≡ length old.labels
    pub tied : MatchesGraph new.values new.labels k
    pub waiting : (m : ℕ) (own : List (Ptr BasicBlock)) → m ≤ g.made → ArePending m own old.values old.labels g → ArePending m own new.values new.labels k
    pub kept : (m : ℕ) → m ≤ g.made → KeepsOlder m g k
    pub brings : BringsNone g k
    pub blanks : (m : ℕ) → BlanksHaveResults m g → BlanksHaveResults m k

  -- a name of this number was used, by any user, and refers to this
  pub record TakesName {X : Type 0} (of : X → Defined) (uses : Word → User → Act) (number : ℕ) (old new : Names) (g h : GraphView (Option O) B T) (x : X) : Type 0 where
    pub still : (d : Defined) → IsDefined g d → IsDefined h d
    pub there : IsDefined h (of x)
    pub follows : (w : Word) (u : User) → slice_get old.names number ≡ Some w.name → TakesUse (uses w u) old new g h u (of x)
