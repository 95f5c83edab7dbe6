-- The uses in a graph as its callers see it: a use is an operand or a successor, and there are no use lists.
use Rattle.std.specs.Prelude.{◌≡◌, ◌+◌, ℕ, cond, [], slice_get, sum_by, unwrap_or, Option, Some}
use Rattle.std.specs.Option.{option_map}
use Rattle.irtext_graph.specs.declared.arena.Ptr.{Ptr}
use Rattle.irtext_graph.specs.declared.object.Operation.{Operation}
use Rattle.irtext_graph.specs.declared.object.BasicBlock.{BasicBlock}
use Rattle.irtext_graph.specs.declared.object.Region.{Region}
use Rattle.irtext_graph.specs.declared.object.Object.TheVariants.{TheOperation, TheBlock}
use Rattle.irtext_graph.specs.declared.object.Defined.{Defined}
use Rattle.irtext_graph.specs.declared.object.Defined.TheVariants.{OfValue, OfBlock}
use Rattle.irtext_graph.specs.declared.object.Site.{Site}
use Rattle.irtext_graph.specs.declared.object.Site.TheVariants.{AtOperand, AtSuccessor}
use Rattle.irtext_graph.specs.Content.{Node, OperationContent}
use Rattle.irtext_graph.specs.declared.arena.Arena.{Arena}
use Rattle.irtext_graph.specs.declared.nest.Nest.{Nest}
use Rattle.irtext_graph.specs.declared.objects.Objects.{Objects}
use Rattle.irtext_graph.specs.declared.objects.OperationData.{OperationData}
use Rattle.irtext_graph.specs.Graph.{GraphView, IsLive, IsNew, seen}
use Rattle.irtext_graph.specs.Parts.{operands, successors, IsDefinedValue}
use Rattle.irtext_graph.specs.Store.{Store, Cell, mapped}
use Rattle.irtext_graph.specs.Uses.{eq_defined, operations_seen}

-- what is used, with d replaced by e
abbrev pub replaced : Defined → Defined → Defined → Defined
replaced d e x = cond (eq_defined x d) e x

-- both are values, or both are blocks
abbrev pub AreAlike : Defined → Defined → Type 0
AreAlike (OfValue _) (OfValue _) = Unit {0}
AreAlike (OfBlock _) (OfBlock _) = Unit {0}
AreAlike _ _ = ⊥

-- a use at the site can refer to d
abbrev pub CanName : Site → Defined → Type 0
CanName (AtOperand _ _) (OfValue _) = Unit {0}
CanName (AtSuccessor _ _) (OfBlock _) = Unit {0}
CanName _ _ = ⊥

-- the operation whose operand or successor the use is
abbrev pub user : Site → Ptr Operation
user (AtOperand p _) = p
user (AtSuccessor p _) = p

-- an operation's content without operands and successors
abbrev pub without_operands : {O T : Type 0} → OperationContent O T → OperationContent O T
without_operands c = record { data_of = c.data_of; operands = []; successors = []; results = c.results }

-- an operation's node without operands and successors
abbrev pub without_uses_in : {O T : Type 0} → Node BasicBlock Region (OperationContent O T) → Node BasicBlock Region (OperationContent O T)
without_uses_in n = record { parent = n.parent; children = n.children; content = without_operands n.content }

module _ {O T : Type 0} where
  -- how many operands and successors of an operation refer to d
  abbrev pub uses_in : Defined → OperationContent O T → ℕ
  uses_in d c = sum_by (λ v. cond (eq_defined (OfValue v) d) 1 0) c.operands
      + sum_by (λ b. cond (eq_defined (OfBlock b) d) 1 0) c.successors

  -- the same for the operation in a slot; 0 if there is none
  abbrev pub uses_of : Defined → Cell (Node BasicBlock Region (OperationContent O T)) → ℕ
  uses_of d c = unwrap_or (option_map (λ e. uses_in d e.content.content) c.object) 0

  -- how many operands and successors of all operations refer to d
  abbrev pub uses_left : Defined → Store (Node BasicBlock Region (OperationContent O T)) → ℕ
  uses_left d s = sum_by (uses_of d) s.cells

  -- the operations of an arena without links, operands and successors
  abbrev pub operations_bare : Arena (Nest BasicBlock Region (OperationData O T)) → Store (Node BasicBlock Region (OperationContent O T))
  operations_bare a = mapped without_uses_in (operations_seen a)

module _ {O B T : Type 0} where
  -- what the operand or the successor at a site refers to
  abbrev pub used_at : GraphView O B T → Site → Option Defined
  used_at g (AtOperand p i) = option_map OfValue (slice_get (operands g p) i)
  used_at g (AtSuccessor p i) = option_map OfBlock (slice_get (successors g p) i)

  -- the operand or the successor at the site refers to d
  abbrev pub IsUse : GraphView O B T → Defined → Site → Type 0
  IsUse g d u = used_at g u ≡ Some d

  -- the value is defined, or the block is live
  abbrev pub IsDefined : GraphView O B T → Defined → Type 0
  IsDefined g (OfValue v) = IsDefinedValue g v
  IsDefined g (OfBlock b) = IsLive g (TheBlock b)

  -- the graph without the operands and successors of its operations
  abbrev pub without_uses : GraphView O B T → GraphView O B T
  without_uses g = record {
    made = g.made;
    values = g.values;
    first_place = g.first_place;
    operations = mapped without_uses_in g.operations;
    blocks = g.blocks;
    regions = g.regions;
  }

  -- each use of d became a use of e, and all else is unchanged
  pub record Replaces (old new : GraphView O B T) (d e : Defined) : Type 0 where
    pub uses : (u : Site) → used_at new u ≡ option_map (replaced d e) (used_at old u)
    pub rest : without_uses new ≡ without_uses old

  -- no operation that was made before the mark uses d
  abbrev pub IsUnusedBelow : ℕ → GraphView O B T → Defined → Type 0
  IsUnusedBelow m g d = (u : Site) → IsUse g d u → IsNew m g (TheOperation (user u))

  -- the view of all objects, without the operands and successors of operations
  abbrev pub bare : Objects O B T → GraphView O B T
  bare x = without_uses (seen x)
