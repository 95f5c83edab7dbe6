-- New uses, which are in no use list yet, new values, which have no uses, and new operations, which have both.
use Rattle.std.specs.Prelude.{◌≡◌, ◌≢◌, ℕ, List, [], map, Some, None, false, slice_get}
use Rattle.irtext_few.specs.Growing.{listed}
use Rattle.irtext_graph.specs.declared.arena.Ptr.{Ptr}
use Rattle.irtext_graph.specs.declared.nest.Nest.{Nest}
use Rattle.irtext_graph.specs.declared.object.Operation.{Operation}
use Rattle.irtext_graph.specs.declared.object.BasicBlock.{BasicBlock}
use Rattle.irtext_graph.specs.declared.object.Region.{Region}
use Rattle.irtext_graph.specs.declared.object.Value.{Value}
use Rattle.irtext_graph.specs.declared.object.Site.{Site}
use Rattle.irtext_graph.specs.declared.object.Site.TheVariants.{AtOperand, AtSuccessor}
use Rattle.irtext_graph.specs.declared.objects.Definition.{Definition}
use Rattle.irtext_graph.specs.declared.objects.Use.{Use}
use Rattle.irtext_graph.specs.declared.objects.OperationData.{OperationData}
use Rattle.irtext_graph.specs.declared.new_uses.Side.{Side}
use Rattle.irtext_graph.specs.declared.new_uses.Side.TheVariants.{Operands, Successors}
use Rattle.irtext_graph.specs.Content.{typed}
use Rattle.irtext_graph.specs.Graph.{numbered}
use Rattle.irtext_graph.specs.Uses.{first_of}

-- a use of this that is in no use list
abbrev pub unlinked : {D : Type 0} → D → Use D
unlinked d = record { def = d; links = record { linked = false; prev = None; next = None } }

-- the site of an operand or a successor of an operation
abbrev pub site_of : Side → Ptr Operation → ℕ → Site
site_of Operands p i = AtOperand p i
site_of Successors p i = AtSuccessor p i

-- the definitions are values of these types, numbered from a number on, without uses
pub record Defines {T : Type 0} (ds : List (Definition T)) (types : List T) (from : ℕ) : Type 0 where
  pub values : map typed ds ≡ numbered from types
  pub unused : (i : ℕ) (u : Site) → first_of (slice_get ds i) ≢ Some (Some u)

-- the operation has no parent and regions, has these operands and successors, and its results have no uses
pub record IsBlank {O T : Type 0} (n : Nest BasicBlock Region (OperationData O T)) (value : O) (types : List T) (from : ℕ)
    (operands : List Value) (successors : List (Ptr BasicBlock)) : Type 0 where
  pub parent : n.parent ≡ None
  pub children : listed n.children ≡ []
  pub value_is : n.data.data ≡ value
  pub operand_uses : n.data.operands ≡ map unlinked operands
  pub successor_uses : n.data.successors ≡ map unlinked successors
  pub results : Defines n.data.results types from
