-- For callers: what parsing an operation with everything nested in it leaves, from which its promise is derived. Marks of earlier roots may
-- be recorded. An item is here an operation or a block with its place in the text.
use Rattle.std.specs.Prelude.{◌≡◌, ℕ, true, List, [], Some}
use Rattle.irtext_base.specs.Text.{Text}
use Rattle.irtext_base.specs.Answers.{Outcome}
use Rattle.irtext_base.specs.Locations.{AttrView}
use Rattle.irtext_base.specs.declared.location.Location.{Location}
use Rattle.irtext_context.specs.Context.{ContextView, KeepsOlder}
use Rattle.irtext_context.specs.Dialects.{Table}
use Rattle.irtext_graph.specs.declared.arena.Ptr.{Ptr}
use Rattle.irtext_graph.specs.declared.object.BasicBlock.{BasicBlock}
use Rattle.irtext_graph.specs.declared.object.Object.{Object}
use Rattle.irtext_graph.specs.declared.object.Operation.{Operation}
use Rattle.irtext_graph.specs.declared.object.Value.{Value}
use Rattle.irtext_graph.specs.Back.{AllOlder}
use Rattle.irtext_graph.specs.Graph.{children, parent, IsLive}
use Rattle.irtext_graph.specs.Nested.{Nested}
use Rattle.irtext_scopes.specs.declared.tracker.NameTracker.{NameTracker}
use Rattle.irtext_grammar.specs.Contexts.Formats.{format_of}
use Rattle.irtext_grammar.specs.Grammar.Tree.{Tree}
use Rattle.irtext_grammar.specs.Names.History as history
use Rattle.irtext_grammar.specs.Names.History.{going}
use Rattle.irtext_grammar.specs.Names.Script.{Path}
use Rattle.irtext_grammar.specs.Naming.{naming}
use Rattle.irtext_grammar.specs.Reached.{Advanced, operation_at}
use Rattle.irtext_grammar.specs.Building.{building, nothing_open, finished}
use Rattle.irtext_grammar.specs.Tracks.{Made, HoldsMade}
use Rattle.irtext_names.specs.Linked.{Known, NamesAgree}
use Rattle.irtext_names.specs.OfItems.{AreOf}
use Rattle.irtext_names.specs.Tied.{NoneIsLeft}
use Rattle.irtext_names.specs.OnlyNew.{BlanksDefine}
use Rattle.irtext_names.specs.Promises.{start_with}

module _ {T A : Type 0} (types_at : Text → Outcome T) (attr : Text → Outcome (AttrView A)) (dialects : List (Text × Table)) (earlier : List ℕ) where
  -- The machine of names starts with the earlier indices marked, and gets through the text; each item has the path of its place. The
  -- names and the graph that were made for these items agree with the machine's final state, and nothing is in hand. These indices are
  -- marked then.
  pub record MachineFrom (items : Made) (marks : List ℕ) (c : ContextView T A) (text rest : Text) (path : ℕ → Path) : Type 0 where
    pub names : NameTracker Value (Ptr BasicBlock)
    pub known : Known
    pub are : AreOf path items known
    pub state : history.State
    pub agreed : NamesAgree names c.graph known [] state
    pub marked : state.marks ≡ marks
    pub came : operation_at dialects types_at attr (naming (format_of dialects) path) true text (going (start_with earlier)) ≡ Advanced tt (going state) rest

  -- A tree was built from the text and is held under the pointer, with each item at its place; no frame is open, and nothing else was
  -- created. Whatever paths the items have, the machine of names gets through the text.
  pub record LeavesTree (IsLocation : ℕ → Location A → Type 0) (op : Ptr Operation) (marks : List ℕ) (old new : ContextView T A) (text rest : Text) : Type 0 where
    pub tree : Tree ℕ T A
    pub built : operation_at dialects types_at attr (building (format_of dialects)) true text nothing_open ≡ Advanced tt (finished tree) rest
    pub items : Made
    pub whole : List Object
    pub held : HoldsMade IsLocation old new items whole [] (Some op) (finished tree)
    pub machine : (path : ℕ → Path) → MachineFrom items marks new text rest path

-- What was created since is closed: all earlier objects are unchanged, no placeholder is left, and both graphs are forests.
pub record LeavesClosed {T A : Type 0} (old new : ContextView T A) : Type 0 where
  pub older : AllOlder old.graph.made old.graph
  pub kept : KeepsOlder old.graph.made old new
  pub none : NoneIsLeft old.graph.made [] new.graph
  pub blanks : BlanksDefine old.graph.made new
  pub nest : Nested (children new.graph) (parent new.graph)
  pub holders : (c k : Object) → parent old.graph c ≡ Some k → IsLive old.graph k
