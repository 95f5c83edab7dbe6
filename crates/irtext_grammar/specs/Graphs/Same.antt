-- For callers: a graph with places instead of numbers, and when two graphs are equal up to fillings: given names, labels and positions
-- that the text adds where the graph has none.
use Rattle.std.specs.Prelude.{◌≡◌, ℕ, suc, ◌<◌, ◌^◌, Bool, true, cond, ◌⊎◌, List, [], ◌∷◌, map, Option, Some, None, is_some, ⊤}
use Rattle.std.specs.List.{list_all}
use Rattle.irtext_base.specs.Text.{Text}
use Rattle.irtext_base.specs.Format.{given_names_key, Id}
use Rattle.irtext_grammar.specs.Spelling.Spellable.{Each}
use Rattle.irtext_grammar.specs.Grammar.Forest.{Regions, no_regions, region, Blocks, no_blocks, block, Operations, no_operations, operation, Root, MatchRoots, AllRegions}
use Rattle.irtext_grammar.specs.Grammar.Tree.{Attribute, given_names}
use Rattle.irtext_grammar.specs.Graphs.Graph.{Graph, GraphOp, GraphBlock, Printing, lookup}
use Rattle.irtext_grammar.specs.Names.Script.{Path, Place}
use Rattle.irtext_grammar.specs.Names.Scopes as scopes
use Rattle.irtext_grammar.specs.Names.Scopes.{Fact, facts}
use Rattle.irtext_grammar.specs.Graphs.Build.{BuiltOp, BuiltBlock, Built}
use Rattle.irtext_grammar.specs.Graphs.Closed.{Thing, a_value, a_block, same_thing, printed, graph_blocks}

-- an operation of a graph; its operands and successors are the places of their definitions, if they have one
pub record ResolvedOp (T A : Type 0) : Type 0 where
  pub id : Id
  pub result_types : List T
  pub result_names : List Text
  pub operands : List (Option Place)
  pub successors : List (Option Place)
  pub attributes : List (Text × Attribute A)
  pub location : Option Text

-- a block of a graph, with its label, if it has one, and its printed name
pub record ResolvedBlock (T A : Type 0) : Type 0 where
  pub label : Option Text
  pub name : Text
  pub argument_types : List T
  pub argument_names : List Text
  pub attributes : List (Text × Attribute A)
  pub location : Option Text

module _ {T A : Type 0} (C : Printing T A) (isolated : Id → Bool) where
  -- the operation, without its regions; v and l are the facts of the whole scopes around it
  abbrev pub resolved_op : List (Fact Thing) → List (Fact Thing) → GraphOp T A → ResolvedOp T A
  resolved_op v l o = record {
    id = o.id;
    result_types = map (λ (r : ℕ × T). r.1) o.results;
    result_names = map (λ (r : ℕ × T). printed C (a_value r.0)) o.results;
    operands = map (λ x. scopes.lookup same_thing (a_value x) v) o.operands;
    successors = map (λ b. scopes.lookup same_thing (a_block b) l) o.successors;
    attributes = o.attributes;
    location = o.location;
  }

  -- the block, without its operations
  abbrev pub resolved_block : GraphBlock T A → ResolvedBlock T A
  resolved_block h = record {
    label = C.label h.place;
    name = printed C (a_block h.place);
    argument_types = map (λ (r : ℕ × T). r.1) h.arguments;
    argument_names = map (λ (r : ℕ × T). printed C (a_value r.0)) h.arguments;
    attributes = h.attributes;
    location = h.location;
  }

  abbrev mutual
    -- regions; j is the index of the first
    pub resolved_regions : List (Fact Thing) → Path → ℕ → Bool → Regions (GraphOp T A) (GraphBlock T A) ⊤ → Regions (ResolvedOp T A) (ResolvedBlock T A) ⊤
    resolved_regions v p j iso no_regions = no_regions
    resolved_regions v p j iso (region r bs rs) =
        region tt (resolved_blocks (cond iso (facts same_thing (graph_blocks C isolated (j ∷ p) 0 bs)).values v) (facts same_thing (graph_blocks C isolated (j ∷ p) 0 bs)).labels (j ∷ p) 0 bs)
        (resolved_regions v p (suc j) iso rs)

    -- blocks; k is the index of the first
    pub resolved_blocks : List (Fact Thing) → List (Fact Thing) → Path → ℕ → Blocks (GraphOp T A) (GraphBlock T A) ⊤ → Blocks (ResolvedOp T A) (ResolvedBlock T A) ⊤
    resolved_blocks v l p k no_blocks = no_blocks
    resolved_blocks v l p k (block h os bs) = block (resolved_block h) (resolved_operations v l (k ∷ p) 0 os) (resolved_blocks v l p (suc k) bs)

    -- operations; i is the index of the first
    pub resolved_operations : List (Fact Thing) → List (Fact Thing) → Path → ℕ → Operations (GraphOp T A) (GraphBlock T A) ⊤ → Operations (ResolvedOp T A) (ResolvedBlock T A) ⊤
    resolved_operations v l p i no_operations = no_operations
    resolved_operations v l p i (operation o rs os) =
        operation (resolved_op v l o) (resolved_regions v (i ∷ p) 0 (isolated o.id) rs) (resolved_operations v l p (suc i) os)

  -- the graph with each number replaced by the place of its definition, which is looked up in the scope around the use
  abbrev pub resolved_root : Graph T A → Root (ResolvedOp T A) (ResolvedBlock T A) ⊤
  resolved_root g = record { own = resolved_op [] [] g.own; regions = resolved_regions [] [] 0 (isolated g.own.id) g.regions }

  -- the operation's numbers, places and generations are below 2 ^ 64
  pub record SmallOp (o : GraphOp T A) : Type 0 where
    pub results : Each (λ (r : ℕ × T). r.0 < 2 ^ 64) o.results
    pub operands : Each (λ v. v < 2 ^ 64) o.operands
    pub successors : Each (λ (b : ℕ × ℕ). (b.0 < 2 ^ 64) × (b.1 < 2 ^ 64)) o.successors

  -- a block's place and generation, and the numbers of its arguments, are below 2 ^ 64
  pub record SmallBlock (h : GraphBlock T A) : Type 0 where
    pub place : (h.place.0 < 2 ^ 64) × (h.place.1 < 2 ^ 64)
    pub arguments : Each (λ (r : ℕ × T). r.0 < 2 ^ 64) h.arguments

  -- the same of everything in the regions
  abbrev pub SmallRegions : Regions (GraphOp T A) (GraphBlock T A) ⊤ → Type 0
  SmallRegions = AllRegions SmallOp SmallBlock (λ r. ⊤)

  -- the same of a root and everything nested in it
  abbrev pub SmallGraph : Graph T A → Type 0
  SmallGraph g = SmallOp g.own × SmallRegions g.regions

-- each operand and each successor of the operation has a definition in the scopes around it
abbrev pub OpFound : {T A : Type 0} → ResolvedOp T A → Type 0
OpFound o = (list_all is_some o.operands ≡ true) × (list_all is_some o.successors ≡ true)

-- the same of a root and everything nested in it
abbrev pub Found : {T A : Type 0} → Root (ResolvedOp T A) (ResolvedBlock T A) ⊤ → Type 0
Found r = OpFound r.own × AllRegions OpFound (λ h. ⊤) (λ r. ⊤) r.regions

-- the text of a location, and whether it is a position
pub record Locations (X : Type 0) : Type 0 where
  pub text : X → Text
  pub is_position : X → Bool

module _ {T A X : Type 0} where
  -- ids, result types, operands and successors are equal
  pub record SameShape (a : ResolvedOp T A) (b : BuiltOp T A X) : Type 0 where
    pub id : a.id ≡ b.id
    pub result_types : a.result_types ≡ b.result_types
    pub operands : a.operands ≡ b.operands
    pub successors : a.successors ≡ b.successors

  -- types of arguments are equal
  pub record SameBlockShape (a : ResolvedBlock T A) (b : BuiltBlock T A X) : Type 0 where
    pub argument_types : a.argument_types ≡ b.argument_types

-- Dictionaries are equal as maps, but given names may be filled in: the printed names, if there were none and there is something to name.
abbrev pub SameDictionary : {A : Type 0} → List Text → List (Text × Attribute A) → List (Text × Attribute A) → Type 0
SameDictionary names es fs = (key : Text) → (lookup key fs ≡ lookup key es)
    ⊎ ((key ≡ given_names_key) × (lookup key es ≡ None) × (names ≡ [] → ⊥) × (lookup key fs ≡ Some (given_names (map Some names))))

-- the location has the same text; if it was unknown, it has become a position
abbrev pub SameLocation : {X : Type 0} → Locations X → Option Text → X → Type 0
SameLocation L None x = L.is_position x ≡ true
SameLocation L (Some l) x = L.text x ≡ l

-- the label is unchanged; if there was none, it is the printed name
abbrev pub SameLabel : Text → Option Text → Text → Type 0
SameLabel name None l = l ≡ name
SameLabel name (Some k) l = l ≡ k

module _ {T A X : Type 0} (L : Locations X) where
  -- an operation and what was built of it are equal up to fillings
  pub record SameOp (a : ResolvedOp T A) (b : BuiltOp T A X) : Type 0 where
    pub shape : SameShape a b
    pub operands_there : list_all is_some b.operands ≡ true
    pub successors_there : list_all is_some b.successors ≡ true
    pub dictionary : SameDictionary a.result_names a.attributes b.attributes
    pub location : SameLocation L a.location b.location

  -- a block and what was built of it are equal up to fillings
  pub record SameBlock (a : ResolvedBlock T A) (b : BuiltBlock T A X) : Type 0 where
    pub shape : SameBlockShape a b
    pub label : SameLabel a.name a.label b.label
    pub dictionary : SameDictionary a.argument_names a.attributes b.attributes
    pub location : SameLocation L a.location b.location

  -- equal up to fillings: the same shape, and the data at each node are equal up to fillings
  abbrev pub UpToFillings : Root (ResolvedOp T A) (ResolvedBlock T A) ⊤ → Built T A X → Type 0
  UpToFillings a b = MatchRoots SameOp SameBlock (λ r s. ⊤) a b

-- the same of shapes alone: dictionaries, labels and locations may differ
abbrev pub SameShapes : {T A X : Type 0} → Root (ResolvedOp T A) (ResolvedBlock T A) ⊤ → Built T A X → Type 0
SameShapes a b = MatchRoots SameShape SameBlockShape (λ r s. ⊤) a b
