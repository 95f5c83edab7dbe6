-- For callers: roots of the arenas that represent what a tree builds. The numbers of values and the places of blocks are any, but
-- distinct.
use Rattle.std.specs.Prelude.{◌≡◌, Bool, true, List, [], ◌∷◌, ◌++◌, Some, ⊤}
use Rattle.irtext_base.specs.Format.{distinct, Id}
use Rattle.irtext_grammar.specs.Grammar.Forest.{Root, MatchRoots}
use Rattle.irtext_grammar.specs.Names.Script.{Act, define_value, define_label, Script, done, does, within}
use Rattle.irtext_grammar.specs.Graphs.Build.{BuiltOp, BuiltBlock, Built}
use Rattle.irtext_grammar.specs.Graphs.Graph.{Graph, Printing}
use Rattle.irtext_grammar.specs.Graphs.Closed.{same_thing, graph_script}
use Rattle.irtext_grammar.specs.Graphs.Same.{ResolvedOp, ResolvedBlock, SameShape, SameBlockShape}

-- what an act defines
abbrev pub made_by : {N P : Type 0} → Act N P → List N
made_by (define_value w p) = w.name ∷ []
made_by (define_label w p) = w.name ∷ []
made_by _ = []

-- everything that a script defines, at any depth
abbrev pub made : {N P : Type 0} → Script N P → List N
made done = []
made (does a k) = made_by a ++ made k
made (within iso p body k) = made body ++ made k

-- no two values of a root have the same number, and no two blocks the same place and generation
abbrev pub Distinct : {T A : Type 0} → Printing T A → (Id → Bool) → Graph T A → Type 0
Distinct C isolated g = distinct same_thing (made (graph_script C isolated g)) ≡ true

module _ {T A X : Type 0} where
  -- an operation represents one that was built: links, types and attributes are equal
  pub record RepresentsOp (a : ResolvedOp T A) (b : BuiltOp T A X) : Type 0 where
    pub shape : SameShape a b
    pub attributes : a.attributes ≡ b.attributes

  -- the same of a block, with its label
  pub record RepresentsBlock (a : ResolvedBlock T A) (b : BuiltBlock T A X) : Type 0 where
    pub shape : SameBlockShape a b
    pub label : a.label ≡ Some b.label
    pub attributes : a.attributes ≡ b.attributes

  -- a root represents one that was built, wherever it is in the arenas
  abbrev pub Represents : Root (ResolvedOp T A) (ResolvedBlock T A) ⊤ → Built T A X → Type 0
  Represents a b = MatchRoots RepresentsOp RepresentsBlock (λ r s. ⊤) a b
