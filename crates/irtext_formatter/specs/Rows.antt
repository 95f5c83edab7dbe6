-- For callers: the roots of a text, one after the other, and the text that is printed of them.
use Rattle.std.specs.Prelude.{◌≡◌, ◌≢◌, ℕ, Bool, true, false, List, [], IfSome, is_some}
use Rattle.std.specs.Str.{chars}
use Rattle.irtext_base.specs.Stream.{StreamView, first_of}
use Rattle.irtext_base.specs.Text.{Text, after_space}
use Rattle.irtext_base.specs.declared.location.Location.{Location, Unknown}
use Rattle.irtext_base.specs.declared.location.Source.TheVariants.{InMemory}
use Rattle.irtext_base.specs.declared.parsable.fault.ParseFault.{ParseFault}
use Rattle.irtext_base.specs.declared.text.AttrText as attr_text
use Rattle.irtext_base.specs.declared.text.IrText as ir_text
use Rattle.irtext_context.specs.Context.{ContextView, OperationView, operation, with_loc, EditsOperation}
use Rattle.irtext_context.specs.Locations.{ErasesLocations}
use Rattle.irtext_context.specs.Made.{SameObjects}
use Rattle.irtext_graph.specs.Graph.{GraphView, children, parent}
use Rattle.irtext_graph.specs.Nested.{Nested}
use Rattle.irtext_graph.specs.Parts.{regions}
use Rattle.irtext_graph.specs.Used.{IsUse, IsDefined}
use Rattle.irtext_graph.specs.declared.arena.Ptr.{Ptr}
use Rattle.irtext_graph.specs.declared.object.Defined.{Defined}
use Rattle.irtext_graph.specs.declared.object.Operation.{Operation}
use Rattle.irtext_graph.specs.declared.object.Site.{Site}
use Rattle.irtext_names.specs.Promises.{BuildsRoot, RefusesRoot}
use Rattle.irtext_parse_root.specs.Parses.{texts, attr}
use Rattle.irtext_parse_state.specs.States.{LocatesAt}
use Rattle.irtext_parse_state.specs.declared.parsable.state.StateStream.{StateStream}
use Rattle.irtext_print_ops.specs.Heads as heads
use Rattle.irtext_stream.specs.Classes.{after_spaces}
use Rattle.pliron_text.specs.Calls.{IsPrinted}
use Rattle.pliron_text.specs.Unprinted.{plain}
use Rattle.irtext_parse_state.specs.FromText.{at_beginning}
use Rattle.irtext_formatter.specs.Misfits.{IsMisfitOf}
use Rattle.irtext_formatter.specs.Lines.{then_root}
use Rattle.irtext_formatter.specs.declared.fault.Fault as fault
use Rattle.irtext_formatter.specs.declared.fault.Fault.TheVariants as of_fault
use Rattle.irtext_formatter.specs.declared.layout.Layout.{Layout}
use Rattle.irtext_formatter.specs.declared.misfit.Misfit.{Misfit}

-- something else than white space follows
abbrev pub follows : Text → Bool
follows rest = is_some (first_of (after_space rest))

-- parents and children agree, and what is used is defined
pub record IsSound {O B T : Type 0} (g : GraphView O B T) : Type 0 where
  pub nested : Nested (children g) (parent g)
  pub used : (u : Site) (d : Defined) → IsUse g d u → IsDefined g d

module _ {T A : Type 0} (types : ir_text.Ghosts T A) (owns : ir_text.Ghosts A A) where
  -- A root was parsed from one position of a text in memory to another: the text between them resolves. What it builds is all that is
  -- new in the context, under the pointer; and the graph is sound.
  pub record ReadsRoot (op : Ptr Operation) (at next : StreamView) (before after : ContextView T A) : Type 0 where
    pub old : StateStream T A (Unit {0})
    pub new : StateStream T A (Unit {0})
    pub from : old.stream ≡ at
    pub to : new.stream ≡ next
    pub source : old.state.src ≡ InMemory
    pub context : old.state.ctx.now ≡ before
    pub left : new.state.ctx.now ≡ after
    pub builds : BuildsRoot (texts types) (texts owns) (attr owns) op old new
    pub sound : IsSound after.graph

  -- no root is parsed at this position with the dialects of this context, and this is the first fault
  abbrev pub RefusesAt : ContextView T A → StreamView → ParseFault A → Type 0
  RefusesAt before at fault = RefusesRoot (texts types) (texts owns) types.reading (attr owns) before.dialects at fault

module _ {T A : Type 0} where
  -- locations are as they were if they are printed, and otherwise all of a root are erased
  abbrev pub ShowsLocations : Bool → Ptr Operation → ContextView T A → ContextView T A → Type 0
  ShowsLocations true op after shown = shown ≡ after
  ShowsLocations false op after shown = ErasesLocations after shown op

  -- a location that is unknown is now the position after this text; any other is kept, and nothing else changes
  pub record KeepsPlace (begin : Text) (op : Ptr Operation) (after shown : ContextView T A) (seen : OperationView T A) : Type 0 where
    pub known : seen.loc ≢ Unknown → shown ≡ after
    pub unknown : seen.loc ≡ Unknown → (place : Location A) × LocatesAt InMemory begin place × EditsOperation after shown op (with_loc place)

  -- The locations of a root, which begins after this text, are those that the layout prints. A root without regions has a location if
  -- another root follows.
  pub record LaysOut (layout : Layout) (followed : Bool) (begin : Text) (op : Ptr Operation) (after shown : ContextView T A) : Type 0 where
    pub alone : followed ≡ true → regions after.graph op ≡ [] → IfSome (operation after op) (KeepsPlace begin op after shown)
    pub other : (followed ≡ true → regions after.graph op ≡ [] → ⊥) → ShowsLocations layout.locations op after shown

module _ {T A : Type 0} (types : ir_text.Ghosts T A) (owns : ir_text.Ghosts A A) (attributes : attr_text.Ghosts A A) (same : A → A → Bool) (layout : Layout) where
  -- A root was parsed at this position, and its locations are those that the layout prints.
  pub record HasRoot (at : StreamView) (before : ContextView T A) (op : Ptr Operation) (next : StreamView) (shown : ContextView T A) : Type 0 where
    pub after : ContextView T A
    pub reads : ReadsRoot types owns op at next before after
    pub laid : LaysOut layout (follows next.rest) at.passed op after shown

  -- A root was parsed at this position, and these bytes are its text.
  pub record GivesRoot (at : StreamView) (before : ContextView T A) (root : List ℕ) (next : StreamView) (shown : ContextView T A) : Type 0 where
    pub op : Ptr Operation
    pub has : HasRoot at before op next shown
    pub prints : IsPrinted types owns attributes same shown op plain root

  -- A root is parsed at this position, and this holds of the context and the root.
  pub record StopsHere (at : StreamView) (before : ContextView T A) (Why : ContextView T A → Ptr Operation → Type 0) : Type 0 where
    pub op : Ptr Operation
    pub next : StreamView
    pub shown : ContextView T A
    pub has : HasRoot at before op next shown
    pub why : Why shown op

  -- the root, or an operation inside it, does not fit its format; the misfit describes the first such operation
  abbrev pub Misfits : Misfit → ContextView T A → Ptr Operation → Type 0
  Misfits misfit shown op = heads.MisfitsUnder types owns attributes same shown op plain × IsMisfitOf owns.written attributes same shown op misfit

  -- an indentation inside the root does not fit 16 bits
  abbrev pub IsTooDeep : ContextView T A → Ptr Operation → Type 0
  IsTooDeep shown op = heads.IsTooDeepUnder types owns attributes same shown op plain

  -- why no root is printed at this position; out of memory is possible at any time
  abbrev pub FailsHere : StreamView → ContextView T A → fault.Fault A → Type 0
  FailsHere at before of_fault.Memory = Unit {0}
  FailsHere at before (of_fault.Rejected f) = RefusesAt types owns before at f
  FailsHere at before (of_fault.Misfit misfit) = StopsHere at before (Misfits misfit)
  FailsHere at before of_fault.TooDeep = StopsHere at before IsTooDeep

  module _ (text : List ℕ) (ctx : ContextView T A) where
    -- The roots of the text up to this place, each followed by another, are printed as these bytes. Each was erased: the context holds the
    -- objects that it held at first.
    pub data Rows : List ℕ → StreamView → ContextView T A → Type 0 where
      none : Rows [] (at_beginning text) ctx
      more : {so_far root : List ℕ} {at next : StreamView} {before shown left : ContextView T A} → Rows so_far at before → follows at.rest ≡ true
          → GivesRoot (after_spaces at) before root next shown → follows next.rest ≡ true → SameObjects before left
          → Rows (then_root so_far root) next left

    -- The text is a row of roots up to white space, and these bytes are printed of them. The last one, if there is one, is in the context.
    pub data Formats : List ℕ → ContextView T A → Type 0 where
      empty : follows (chars text) ≡ false → Formats [] ctx
      roots : {so_far root : List ℕ} {at next : StreamView} {before shown : ContextView T A} → Rows so_far at before → follows at.rest ≡ true
          → GivesRoot (after_spaces at) before root next shown → follows next.rest ≡ false → Formats (then_root so_far root) shown

    -- The roots of the text up to this place are fine, and the next one gives this fault.
    pub record FailsAfter (f : fault.Fault A) : Type 0 where
      pub so_far : List ℕ
      pub at : StreamView
      pub before : ContextView T A
      pub rows : Rows so_far at before
      pub more : follows at.rest ≡ true
      pub fails : FailsHere (after_spaces at) before f

    -- why the roots of the text are not printed; out of memory is possible at any time
    abbrev pub FailsWith : fault.Fault A → Type 0
    FailsWith of_fault.Memory = Unit {0}
    FailsWith f = FailsAfter f
