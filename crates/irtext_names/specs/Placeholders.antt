-- Placeholders: the values and the blocks that forward references refer to, and what creating and replacing them does to a graph.
use Rattle.std.specs.Prelude.{◌≡◌, ◌≤◌, ℕ, List, [], ◌∷◌, Option, Some, None}
use Rattle.std.specs.Option.{option_map}
use Rattle.irtext_graph.specs.declared.arena.Ptr.{Ptr}
use Rattle.irtext_graph.specs.declared.object.Operation.{Operation}
use Rattle.irtext_graph.specs.declared.object.BasicBlock.{BasicBlock}
use Rattle.irtext_graph.specs.declared.object.Region.{Region}
use Rattle.irtext_graph.specs.declared.object.Object.{Object}
use Rattle.irtext_graph.specs.declared.object.Object.TheVariants.{TheBlock}
use Rattle.irtext_graph.specs.declared.object.Value.{Value}
use Rattle.irtext_graph.specs.declared.object.Value.TheVariants.{Result, Argument}
use Rattle.irtext_graph.specs.declared.object.Defined.{Defined}
use Rattle.irtext_graph.specs.declared.object.Defined.TheVariants.{OfValue, OfBlock}
use Rattle.irtext_graph.specs.Erasing.{owner, Erases}
use Rattle.irtext_graph.specs.Graph.{GraphView, parent, children, IsInside, MakesOperation, MakesBlock}
use Rattle.irtext_graph.specs.Parts.{operation_at}
use Rattle.irtext_graph.specs.Store.{get}
use Rattle.irtext_graph.specs.Used.{IsDefined, Replaces}
use Rattle.irtext_scopes.specs.declared.scopes.Entry.{Entry}
use Rattle.irtext_scopes.specs.declared.scopes.Entry.TheVariants.{Pending}
use Rattle.irtext_scopes.specs.Scopes.{Scope, innermost, in_innermost, find, mentioned, defined, placeholder_of, value_of}

module _ {O B T : Type 0} where
  -- a result of an operation that has no data, or a detached block
  abbrev pub IsBlank : GraphView (Option O) B T → Defined → Type 0
  IsBlank g (OfValue (Result p i)) = option_map (λ c. c.data_of) (operation_at g p) ≡ Some None
  IsBlank g (OfValue (Argument b i)) = ⊥
  IsBlank g (OfBlock b) = parent g (TheBlock b) ≡ None

  -- the object of d defines d and nothing else
  abbrev pub DefinesOnly : GraphView (Option O) B T → Defined → Type 0
  DefinesOnly g d = (x : Defined) → IsDefined g x → owner x ≡ owner d → x ≡ d

  -- d is blank, and its object defines nothing else, is detached and has no children
  pub record IsPlaceholder (g : GraphView (Option O) B T) (d : Defined) : Type 0 where
    pub alive : IsDefined g d
    pub blank : IsBlank g d
    pub free : parent g (owner d) ≡ None
    pub empty : children g (owner d) ≡ []
    pub alone : DefinesOnly g d

  -- the value of a new operation without data
  pub record MakesValue (old new : GraphView (Option O) B (Option T)) (v : Value) : Type 0 where
    pub operation : Ptr Operation
    pub value : v ≡ Result operation 0
    pub makes : MakesOperation old new operation None (None ∷ []) [] []

  -- a new block with this data that has no arguments
  abbrev pub MakesLabel : B → GraphView (Option O) B T → GraphView (Option O) B T → Ptr BasicBlock → Type 0
  MakesLabel data_of old new b = MakesBlock old new b data_of []

  -- each use of d became a use of e, and then the object of d, which had nothing nested in it, was erased
  pub record Settles (old new : GraphView (Option O) B T) (d e : Defined) : Type 0 where
    pub between : GraphView (Option O) B T
    pub replaces : Replaces old between d e
    pub only : (q : Object) → IsInside between (owner d) q → q ≡ owner d
    pub takes_out : Erases between new (owner d)

  -- e replaces the placeholder d, if there is one; otherwise the graph is unchanged
  abbrev pub SettlesIfAny : GraphView (Option O) B T → GraphView (Option O) B T → Option Defined → Defined → Type 0
  SettlesIfAny old new None e = new ≡ old
  SettlesIfAny old new (Some d) e = Settles old new d e

  -- each object is unchanged, whatever was created in between and removed again
  pub record IsUnchanged (old new : GraphView (Option O) B T) : Type 0 where
    pub operations : (p : Ptr Operation) → get new.operations p ≡ get old.operations p
    pub blocks : (p : Ptr BasicBlock) → get new.blocks p ≡ get old.blocks p
    pub regions : (p : Ptr Region) → get new.regions p ≡ get old.regions p
    pub made : old.made ≤ new.made
    pub values : old.values ≤ new.values
    pub first_place : new.first_place ≡ old.first_place

  module _ {V : Type 0} where
    -- a known name gives what it refers to and changes nothing; a new name gets a placeholder, which is created, and waits with it
    pub record Uses (Makes : GraphView (Option O) B T → GraphView (Option O) B T → V → Type 0) (scopes scopes' : List (Scope V))
        (old new : GraphView (Option O) B T) (name : ℕ) (v : V) : Type 0 where
      pub known : (e : Entry V) → find name (innermost scopes) ≡ Some e → (v ≡ value_of e) × (scopes' ≡ scopes) × (new ≡ old)
      pub unknown : find name (innermost scopes) ≡ None → (scopes' ≡ in_innermost (mentioned name (Pending v)) scopes) × Makes old new v

    -- the name has its definition, which replaces the placeholder of the name, if it had one
    pub record Defines (of : V → Defined) (scopes scopes' : List (Scope V)) (old new : GraphView (Option O) B T) (name : ℕ) (v : V) : Type 0 where
      pub scopes_are : scopes' ≡ in_innermost (defined name v) scopes
      pub settles : SettlesIfAny old new (option_map of (placeholder_of (find name (innermost scopes)))) (of v)
