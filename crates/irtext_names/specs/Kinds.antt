-- The two kinds of names over a graph: names of values, and labels of blocks. What holds of both is said of a kind.
use Rattle.std.specs.Prelude.{List, Option, ⊤}
use Rattle.irtext_graph.specs.declared.arena.Ptr.{Ptr}
use Rattle.irtext_graph.specs.declared.object.BasicBlock.{BasicBlock}
use Rattle.irtext_graph.specs.declared.object.Value.{Value}
use Rattle.irtext_graph.specs.declared.object.Defined.{Defined}
use Rattle.irtext_graph.specs.declared.object.Defined.TheVariants.{OfValue, OfBlock}
use Rattle.irtext_graph.specs.Graph.{GraphView}
use Rattle.irtext_graph.specs.Limits.{NoMoreBlocks, NoMoreOperations}
use Rattle.irtext_scopes.specs.declared.tracker.NameTracker.{NameTracker}
use Rattle.irtext_scopes.specs.Scopes.{Scope}
use Rattle.irtext_grammar.specs.Names.Script.{Place, User, use_value, use_label, define_value, define_label}
use Rattle.irtext_grammar.specs.Names.TextScopes.{Act, Word}
use Rattle.irtext_names.specs.Placeholders.{MakesValue, MakesLabel}

-- a kind of names, by what its names refer to
pub data NamesOf : Type 0 → Type 1 where
  values : NamesOf Value
  labels : NamesOf (Ptr BasicBlock)

-- what names of the other kind refer to
abbrev pub Other : {V : Type 0} → NamesOf V → Type 0
Other values = Ptr BasicBlock
Other labels = Value

-- the other kind
abbrev pub other : {V : Type 0} (kind : NamesOf V) → NamesOf (Other kind)
other values = labels
other labels = values

-- what a name refers to, as what operations use
abbrev pub defined_as : {V : Type 0} → NamesOf V → V → Defined
defined_as values = OfValue
defined_as labels = OfBlock

-- the open scopes of names of the kind
abbrev pub scopes_of : {V : Type 0} → NamesOf V → NameTracker Value (Ptr BasicBlock) → List (Scope V)
scopes_of values names = names.values
scopes_of labels names = names.labels

-- the use of a name
abbrev pub use_of : {V : Type 0} → NamesOf V → Word → User → Act
use_of values = use_value
use_of labels = use_label

-- the definition of a name
abbrev pub definition_of : {V : Type 0} → NamesOf V → Word → Place → Act
definition_of values = define_value
definition_of labels = define_label

-- what a placeholder is made with: nothing if it is a value, and its data if it is a block
abbrev pub BlankOf : {V : Type 0} → Type 0 → NamesOf V → Type 0
BlankOf B values = ⊤
BlankOf B labels = B

-- a placeholder was made with this
abbrev pub Makes : {O B T V : Type 0} (kind : NamesOf V) → BlankOf B kind → GraphView (Option O) B (Option T) → GraphView (Option O) B (Option T) → V → Type 0
Makes values blank = MakesValue
Makes labels blank = MakesLabel blank

-- no more placeholders can be made: for a value that is an operation with one result, for a label a block without arguments
abbrev pub NoMore : {O B T V : Type 0} → NamesOf V → GraphView O B T → Type 0
NoMore values = NoMoreOperations 1 0 0
NoMore labels = NoMoreBlocks 0
