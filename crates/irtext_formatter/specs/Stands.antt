-- For callers: where the parsing of a text's roots stands. Between functions: what is known of the roots so far.
use Rattle.std.specs.Prelude.{◌≡◌, ◌++◌, ℕ, Bool, true, false, List, Result, Ok, Err}
use Rattle.irtext_base.specs.Places.{IsPlaceAfter}
use Rattle.irtext_base.specs.Stream.{StreamView}
use Rattle.irtext_base.specs.Text.{Text}
use Rattle.irtext_base.specs.declared.location.Source.TheVariants.{InMemory}
use Rattle.irtext_base.specs.declared.parsable.fault.ParseFault.{ParseFault}
use Rattle.irtext_base.specs.declared.text.AttrText as attr_text
use Rattle.irtext_base.specs.declared.text.IrText as ir_text
use Rattle.irtext_context.specs.Context.{ContextView, KeepsOlder}
use Rattle.irtext_context.specs.Made.{SameObjects}
use Rattle.irtext_graph.specs.Back.{AllOlder, IsClosedBelow}
use Rattle.irtext_graph.specs.declared.arena.Ptr.{Ptr}
use Rattle.irtext_graph.specs.declared.object.Operation.{Operation}
use Rattle.irtext_grammar.specs.Promises.Root.{UnlessMemory}
use Rattle.irtext_parse_state.specs.States.{IsFresh}
use Rattle.irtext_stream.specs.Classes.{after_spaces}
use Rattle.irtext_formatter.specs.Rows.{follows, ReadsRoot, RefusesAt, GivesRoot, Rows, Formats}
use Rattle.irtext_formatter.specs.declared.format.Kept.{Kept}
use Rattle.irtext_formatter.specs.declared.format.Kept.TheVariants.{All, Last}
use Rattle.irtext_formatter.specs.declared.layout.Layout.{Layout}
use Rattle.irtext_formatter.specs.declared.roots.Roots.{Roots}

-- where all texts are kept, those that were printed are there
abbrev pub IsKept : Kept → List ℕ → List ℕ → Type 0
IsKept All printed kept = kept ≡ printed
IsKept Last printed kept = Unit {0}

module _ {T A : Type 0} where
  -- the position on the stream
  abbrev pub place_of : Roots T A → StreamView
  place_of r = r.stream.stream

  -- the context
  abbrev pub held_by : Roots T A → ContextView T A
  held_by r = r.stream.state.ctx.now

  -- a root can be parsed: the stream has not failed, and no mark is left over; the text is in memory
  pub record IsReady (r : Roots T A) : Type 0 where
    pub fresh : IsFresh r.stream
    pub source : r.stream.state.src ≡ InMemory

  -- the last root begins after this text, with which the whole text begins
  pub record Begins (begin : Text) (r : Roots T A) : Type 0 where
    pub at : IsPlaceAfter r.begin begin
    pub rest : Text
    pub same : begin ++ rest ≡ (place_of r).passed ++ (place_of r).rest

  -- what was made since the last root began can be erased, and then the context holds what it held before
  pub record CanTakeBack (before : ContextView T A) (r : Roots T A) : Type 0 where
    pub older : AllOlder r.made before.graph
    pub kept : KeepsOlder r.made before (held_by r)
    pub closed : IsClosedBelow r.made (held_by r).graph

module _ {T A : Type 0} (types : ir_text.Ghosts T A) (owns : ir_text.Ghosts A A) (old new : Roots T A) where
  -- the root that follows the white space was parsed, and can be erased; or it was rejected, and the context holds what it held before
  abbrev pub NextRoot : Result (Ptr Operation) (ParseFault A) → Type 0
  NextRoot (Ok op) = ReadsRoot types owns op (after_spaces (place_of old)) (place_of new) (held_by old) (held_by new) × IsReady new × CanTakeBack (held_by old) new
  NextRoot (Err fault) = UnlessMemory (RefusesAt types owns (held_by old) (after_spaces (place_of old))) fault × SameObjects (held_by old) (held_by new)

module _ {T A : Type 0} (types : ir_text.Ghosts T A) (owns : ir_text.Ghosts A A) (attributes : attr_text.Ghosts A A) (same : A → A → Bool) (layout : Layout) where
  -- A root was parsed, and these bytes are its text. The stream is at what follows. If that is another root, this one was erased.
  pub record GoesOn (root : List ℕ) (followed : Bool) (old new : Roots T A) : Type 0 where
    pub next : StreamView
    pub shown : ContextView T A
    pub gives : GivesRoot types owns attributes same layout (place_of old) (held_by old) root next shown
    pub is_followed : followed ≡ follows next.rest
    pub place : place_of new ≡ after_spaces next
    pub left : followed ≡ true → SameObjects (held_by old) (held_by new) × IsReady new
    pub last : followed ≡ false → held_by new ≡ shown

  module _ (text : List ℕ) (ctx : ContextView T A) where
    -- The roots so far are printed as these bytes, and another root follows.
    pub record IsGoing (so_far : List ℕ) (r : Roots T A) : Type 0 where
      pub at : StreamView
      pub rows : Rows types owns attributes same layout text ctx so_far at (held_by r)
      pub place : place_of r ≡ after_spaces at
      pub more : follows at.rest ≡ true

    -- another root follows, or all are printed, as these bytes
    pub record Stands (so_far : List ℕ) (left : Bool) (r : Roots T A) : Type 0 where
      pub going : left ≡ true → IsGoing so_far r
      pub done : left ≡ false → Formats types owns attributes same layout text ctx so_far (held_by r)
