-- For callers: roots in which everything that can have a name has one, and roots that come back with nothing filled in but positions.
use Rattle.std.specs.Prelude.{◌≡◌, ℕ, Bool, true, ◌⊎◌, List, [], Some, None, is_some, ⊤}
use Rattle.std.specs.List.{list_all}
use Rattle.irtext_base.specs.Text.{Text, after_space}
use Rattle.irtext_base.specs.Format.{given_names_key, Id}
use Rattle.irtext_base.specs.Own.{Texts, language, unplaced, Verdict}
use Rattle.irtext_grammar.specs.Grammar.Forest.{Root, MatchRoots, AllRegions}
use Rattle.irtext_grammar.specs.Grammar.Tree.{Attribute, Tree}
use Rattle.irtext_grammar.specs.Graphs.Graph.{Graph, GraphOp, GraphBlock, Printing, lookup}
use Rattle.irtext_grammar.specs.Grammar.Section.{Entry}
use Rattle.irtext_grammar.specs.Grammar.Marked.{reads_root}
use Rattle.irtext_grammar.specs.Spelling.Section.{text}
use Rattle.irtext_grammar.specs.Names.Acts.{failures_of}
use Rattle.irtext_grammar.specs.Graphs.Build.{BuiltOp, BuiltBlock, Built, build}
use Rattle.irtext_grammar.specs.Graphs.Same.{ResolvedOp, ResolvedBlock, resolved_root, Locations, SameShape, SameBlockShape, SameLocation}

-- the dictionary has an attribute under the key of given names, unless there is nothing to name
abbrev pub HoldsNames : {Y A : Type 0} → List Y → List (Text × Attribute A) → Type 0
HoldsNames things es = (things ≡ []) ⊎ (is_some (lookup given_names_key es) ≡ true)

module _ {T A : Type 0} (C : Printing T A) where
  -- the results have given names
  abbrev pub OpNamed : GraphOp T A → Type 0
  OpNamed o = HoldsNames o.results o.attributes

  -- the block has a label, and its arguments have given names
  abbrev pub BlockNamed : GraphBlock T A → Type 0
  BlockNamed h = (is_some (C.label h.place) ≡ true) × HoldsNames h.arguments h.attributes

  -- each block of a root has a label, and each operation with results and each block with arguments has given names
  abbrev pub Named : Graph T A → Type 0
  Named g = OpNamed g.own × AllRegions OpNamed BlockNamed (λ r. ⊤) g.regions

-- two dictionaries are equal as maps
abbrev pub EqualDictionary : {A : Type 0} → List (Text × Attribute A) → List (Text × Attribute A) → Type 0
EqualDictionary es fs = (key : Text) → lookup key fs ≡ lookup key es

module _ {T A X : Type 0} (L : Locations X) where
  -- an operation and what was built of it are equal, except that an unknown location has become a position
  pub record EqualOp (a : ResolvedOp T A) (b : BuiltOp T A X) : Type 0 where
    pub shape : SameShape a b
    pub operands_there : list_all is_some b.operands ≡ true
    pub successors_there : list_all is_some b.successors ≡ true
    pub dictionary : EqualDictionary a.attributes b.attributes
    pub location : SameLocation L a.location b.location

  -- the same of a block, with its label
  pub record EqualBlock (a : ResolvedBlock T A) (b : BuiltBlock T A X) : Type 0 where
    pub shape : SameBlockShape a b
    pub label : a.label ≡ Some b.label
    pub dictionary : EqualDictionary a.attributes b.attributes
    pub location : SameLocation L a.location b.location

  -- the roots are equal, except that unknown locations have become positions
  abbrev pub UpToPositions : Root (ResolvedOp T A) (ResolvedBlock T A) ⊤ → Built T A X → Type 0
  UpToPositions a b = MatchRoots EqualOp EqualBlock (λ r s. ⊤) a b

module _ {T A X : Type 0} (types : Texts T) (owns : Texts A) (location_at : Text → Verdict X) (K : Locations X) (first : ℕ → X) (C : Printing T A) (isolated : Id → Bool) where
  -- The printed text of the root, at this width and indentation, parses as a tree and a section that resolve, with only white space left.
  -- What they build is equal to the root, except that unknown locations have become positions.
  abbrev pub ComesBackWhole : Graph T A → ℕ → ℕ → Type 0
  ComesBackWhole g width n = (t : Tree ℕ T A) × (es : List (Entry ℕ A X)) × (u : Text)
      × reads_root (language types owns C.format_of) location_at t es (text (unplaced types owns C.format_of) C g n width None) u × (after_space u ≡ [])
      × (failures_of isolated t es ≡ []) × UpToPositions K (resolved_root C isolated g) (build isolated first es t)
