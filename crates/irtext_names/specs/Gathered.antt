-- Between functions: what an operation is made from.
use Rattle.std.specs.Prelude.{◌≡◌, ℕ, List, [], ◌∷◌, Option}
use Rattle.irtext_graph.specs.declared.arena.Ptr.{Ptr}
use Rattle.irtext_graph.specs.declared.object.BasicBlock.{BasicBlock}
use Rattle.irtext_graph.specs.declared.object.Value.{Value}
use Rattle.irtext_graph.specs.declared.object.Defined.TheVariants.{OfValue, OfBlock}
use Rattle.irtext_graph.specs.Chained.{Among}
use Rattle.irtext_graph.specs.Graph.{GraphView}
use Rattle.irtext_graph.specs.Used.{IsDefined}
use Rattle.irtext_grammar.specs.Grammar.Tree.{in_order}
use Rattle.irtext_names.specs.declared.gathered.Gathered.{Gathered}

-- the types of results: those with places; if there are none, those of the list
abbrev pub types_made : {T : Type 0} → List (ℕ × T) → List T → List T
types_made [] listed = listed
types_made (e ∷ es) listed = in_order (e ∷ es)

module _ {T A : Type 0} where
  -- nothing was gathered
  pub record IsNothing (x : Gathered T A) : Type 0 where
    pub operands : (x.operands.single.items ≡ []) × (x.operands.list.items ≡ [])
    pub successors : (x.successors.single.items ≡ []) × (x.successors.list.items ≡ [])
    pub types : (x.types.items ≡ []) × (x.listed ≡ [])
    pub attributes : x.attributes ≡ []

module _ {O B T A : Type 0} where
  -- everything that was used so far is live
  pub record AllUsesLive (g : GraphView (Option O) B (Option T)) (x : Gathered T A) : Type 0 where
    pub operands : (e : ℕ × Value) → Among e x.operands.single.items → IsDefined g (OfValue e.1)
    pub listed_operands : (v : Value) → Among v x.operands.list.items → IsDefined g (OfValue v)
    pub successors : (e : ℕ × Ptr BasicBlock) → Among e x.successors.single.items → IsDefined g (OfBlock e.1)
    pub listed_successors : (b : Ptr BasicBlock) → Among b x.successors.list.items → IsDefined g (OfBlock b)
