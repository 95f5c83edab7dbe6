-- The use lists of values and blocks in the arenas.
use Rattle.std.specs.Prelude.{ℕ, Bool, false, eqb, ◌&&◌, cond, Option, Some, None, IsSome, option_map, slice_get}
use Rattle.irtext_graph.specs.declared.arena.Entry.{Entry}
use Rattle.irtext_graph.specs.declared.arena.Ptr.{Ptr}
use Rattle.irtext_graph.specs.declared.nest.Nest.{Nest}
use Rattle.irtext_graph.specs.declared.object.Operation.{Operation}
use Rattle.irtext_graph.specs.declared.object.BasicBlock.{BasicBlock}
use Rattle.irtext_graph.specs.declared.object.Region.{Region}
use Rattle.irtext_graph.specs.declared.object.Value.{Value}
use Rattle.irtext_graph.specs.declared.object.Value.TheVariants.{Result, Argument}
use Rattle.irtext_graph.specs.declared.object.Defined.{Defined}
use Rattle.irtext_graph.specs.declared.object.Defined.TheVariants.{OfValue, OfBlock}
use Rattle.irtext_graph.specs.declared.object.Site.{Site}
use Rattle.irtext_graph.specs.declared.object.Site.TheVariants.{AtOperand, AtSuccessor}
use Rattle.irtext_graph.specs.declared.objects.Links.{Links}
use Rattle.irtext_graph.specs.declared.objects.Use.{Use}
use Rattle.irtext_graph.specs.declared.objects.Objects.{Objects}
use Rattle.irtext_graph.specs.declared.objects.OperationData.{OperationData}
use Rattle.irtext_graph.specs.declared.objects.BlockData.{BlockData}
use Rattle.irtext_graph.specs.declared.objects.Definition.{Definition}
use Rattle.irtext_graph.specs.Arena.{get}
use Rattle.irtext_graph.specs.Chained.{Chained}
use Rattle.irtext_graph.specs.Store.{Store, store_of}
use Rattle.irtext_graph.specs.declared.arena.Arena.{Arena}
use Rattle.irtext_graph.specs.Content.{Node, node_of, OperationContent, operation_content, BlockContent, block_content}
use Rattle.irtext_graph.specs.Objects.{eq_ptr}

-- whether two sites are the same
abbrev pub eq_site : Site → Site → Bool
eq_site (AtOperand p i) (AtOperand q j) = eq_ptr p q && eqb i j
eq_site (AtSuccessor p i) (AtSuccessor q j) = eq_ptr p q && eqb i j
eq_site _ _ = false

-- whether two values are the same
abbrev pub eq_value : Value → Value → Bool
eq_value (Result p i) (Result q j) = eq_ptr p q && eqb i j
eq_value (Argument p i) (Argument q j) = eq_ptr p q && eqb i j
eq_value _ _ = false

-- whether two used values or blocks are the same
abbrev pub eq_defined : Defined → Defined → Bool
eq_defined (OfValue v) (OfValue w) = eq_value v w
eq_defined (OfBlock b) (OfBlock c) = eq_ptr b c
eq_defined _ _ = false

-- a use with other links
abbrev pub relinked : {D : Type 0} → Links → Use D → Use D
relinked l u = record { def = u.def; links = l }

-- a use with the same links that refers to something else
abbrev pub renamed : {D : Type 0} → D → Use D → Use D
renamed d u = record { def = d; links = u.links }

-- a use of a value, or a use of a block, as a use of either
abbrev pub either : {D : Type 0} → (D → Defined) → Use D → Use Defined
either f u = record { def = f u.def; links = u.links }

-- what a use refers to, if it is in a use list
abbrev pub def_of : Option (Use Defined) → Option Defined
def_of None = None
def_of (Some u) = cond u.links.linked (Some u.def) None

-- the use before a use in its list
abbrev pub prev_of : Option (Use Defined) → Option Site
prev_of None = None
prev_of (Some u) = u.links.prev

-- the use after a use in its list
abbrev pub next_of : Option (Use Defined) → Option Site
next_of None = None
next_of (Some u) = u.links.next

module _ {T : Type 0} where
  -- the first use of a definition, if there is one
  abbrev pub first_of : Option (Definition T) → Option (Option Site)
  first_of None = None
  first_of (Some d) = Some d.first

module _ {O T : Type 0} where
  -- an operand of an operation, if there is one
  abbrev pub operand_in : Option (Entry (Nest BasicBlock Region (OperationData O T))) → ℕ → Option (Use Value)
  operand_in None i = None
  operand_in (Some e) i = slice_get e.content.data.operands i

  -- a successor of an operation, if there is one
  abbrev pub successor_in : Option (Entry (Nest BasicBlock Region (OperationData O T))) → ℕ → Option (Use (Ptr BasicBlock))
  successor_in None i = None
  successor_in (Some e) i = slice_get e.content.data.successors i

  -- the operations of an arena without links
  abbrev pub operations_seen : Arena (Nest BasicBlock Region (OperationData O T)) → Store (Node BasicBlock Region (OperationContent O T))
  operations_seen a = store_of (node_of operation_content) a

  -- a result of an operation, if there is one
  abbrev pub result_in : Option (Entry (Nest BasicBlock Region (OperationData O T))) → ℕ → Option (Definition T)
  result_in None i = None
  result_in (Some e) i = slice_get e.content.data.results i

module _ {B T : Type 0} where
  -- an argument of a block, if there is one
  abbrev pub argument_in : Option (Entry (Nest Region Operation (BlockData B T))) → ℕ → Option (Definition T)
  argument_in None i = None
  argument_in (Some e) i = slice_get e.content.data.arguments i

  -- the blocks of an arena without links
  abbrev pub blocks_seen : Arena (Nest Region Operation (BlockData B T)) → Store (Node Region Operation (BlockContent B T))
  blocks_seen a = store_of (node_of block_content) a

  -- the first use of a block, if it is live
  abbrev pub preds_in : Option (Entry (Nest Region Operation (BlockData B T))) → Option (Option Site)
  preds_in None = None
  preds_in (Some e) = Some e.content.data.preds

module _ {O B T : Type 0} where
  -- the use at a site
  abbrev pub use_at : Objects O B T → Site → Option (Use Defined)
  use_at x (AtOperand p i) = option_map (either OfValue) (operand_in (get x.operations p) i)
  use_at x (AtSuccessor p i) = option_map (either OfBlock) (successor_in (get x.operations p) i)

  -- the first use of a value or a block, if it is defined
  abbrev pub head_at : Objects O B T → Defined → Option (Option Site)
  head_at x (OfValue (Result p i)) = first_of (result_in (get x.operations p) i)
  head_at x (OfValue (Argument b i)) = first_of (argument_in (get x.blocks b) i)
  head_at x (OfBlock b) = preds_in (get x.blocks b)

  -- what the use at a site refers to, if it is in a use list
  abbrev pub val : Objects O B T → Site → Option Defined
  val x u = def_of (use_at x u)

  -- the use before the use at a site
  abbrev pub prv : Objects O B T → Site → Option Site
  prv x u = prev_of (use_at x u)

  -- the use after the use at a site
  abbrev pub nxt : Objects O B T → Site → Option Site
  nxt x u = next_of (use_at x u)

  -- the uses of each value and of each block are linked
  abbrev pub AreUsesLinked : Objects O B T → Type 0
  AreUsesLinked x = Chained (val x) (prv x) (nxt x) (head_at x)

  -- every use is in a use list
  abbrev pub AreAllUsed : Objects O B T → Type 0
  AreAllUsed x = (u : Site) → IsSome (use_at x u) → IsSome (val x u)
