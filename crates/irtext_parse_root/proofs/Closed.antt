-- What was parsed while no name was known: what the text is, by the grammar; after it no scope is open, so no placeholder is left; what it
-- builds is under the pointer, and only that is new.
use Rattle.std.proofs.Common.{◌≡◌, ◌∙◌, ℕ, List, [], Some, sym, le_refl}
use Rattle.irtext_base.specs.Text.{Text}
use Rattle.irtext_base.specs.Format.{Id}
use Rattle.irtext_base.specs.Answers.{Outcome}
use Rattle.irtext_base.specs.Own.{texts_of}
use Rattle.irtext_base.specs.Paths.{Written}
use Rattle.irtext_base.specs.declared.location.Location.{Location}
use Rattle.irtext_context.specs.Context.{KeepsOlder}
use Rattle.irtext_context.specs.Dialects.{Table}
use Rattle.irtext_graph.specs.declared.arena.Ptr.{Ptr}
use Rattle.irtext_graph.specs.declared.object.Operation.{Operation}
use Rattle.irtext_graph.specs.declared.object.Object.{Object}
use Rattle.irtext_graph.specs.Back.{AllOlder}
use Rattle.irtext_graph.specs.Graph.{children, parent, IsLive}
use Rattle.irtext_graph.specs.Nested as graphs
use Rattle.irtext_tokens.specs.AttrTexts.{attr_at}
use Rattle.irtext_parse_state.specs.States.{marks_of}
use Rattle.irtext_parse_state.specs.declared.parsable.state.StateStream.{StateStream}
use Rattle.irtext_grammar.specs.Contexts.Formats.{isolated, IsAccepted}
use Rattle.irtext_grammar.specs.Contexts.Held.{location_over, whole}
use Rattle.irtext_grammar.specs.Grammar.Forest.{operation, no_operations}
use Rattle.irtext_grammar.proofs.Names.InScripts.{WholeOperations}
use Rattle.irtext_grammar.proofs.Names.TreeLists.{marks_in_root}
use Rattle.irtext_grammar.specs.Promises.Root.{location_of}
use Rattle.irtext_grammar.specs.Promises.Section.{indices_of}
use Rattle.irtext_grammar.proofs.Joins.Answers.{Splits}
use Rattle.irtext_grammar.specs.Exact.{NeedsWord}
use Rattle.irtext_grammar.proofs.Naming.Shorter.{Shortens}
use Rattle.irtext_names.specs.Leaves.{LeavesTree, LeavesClosed}
use Rattle.irtext_names.specs.Promises.{tree_marks}
use Rattle.irtext_names.proofs.AfterTree.{none_left, place_written}
use Rattle.irtext_names.proofs.Kept as kept
use Rattle.irtext_names.specs.Items.{Names, IsSound}
use Rattle.irtext_names.specs.Located.{IsLocated}
use Rattle.irtext_parse_root.specs.Carried.{marks_in}
use Rattle.irtext_parse_root.specs.Nested.{ReadsNested}
use Rattle.irtext_parse_root.specs.Turned.{Carries}
use Rattle.irtext_parse_root.proofs.Carrying.{marks_are}
use Rattle.irtext_parse_root.specs.AnyState.{ReadsTree}
use Rattle.irtext_parse_root.proofs.Fresh.{fresh_sound}
use Rattle.irtext_parse_root.proofs.Marks.{indices_carried}
use Rattle.irtext_parse_root.proofs.NestedWhole.{leaves_tree}

module _ {T A U : Type 0} (types_at : Text → Outcome T) (types_written : T → Text) (reading : Text → Outcome A) (written : A → Text) (types_split : Splits types_at) (splits : Splits reading) (words : NeedsWord reading)
    (short_types : Shortens (texts_of types_at types_written)) (short_owns : Shortens (texts_of reading written)) (before names : Names) (old new : StateStream T A U)
    (no_names : before.names ≡ []) (no_values : before.values ≡ []) (no_labels : before.labels ≡ []) (op : Ptr Operation) (r : ReadsNested types_at (attr_at reading) before old op names new)
    (accepted : (id : Id) → IsAccepted old.state.ctx.now.dialects id) where
  abbrev dialects : List (Text × Table)
  dialects = old.state.ctx.now.dialects

  abbrev earlier : List ℕ
  earlier = indices_of (marks_of old.state)

  abbrev L : ℕ → Location A → Type 0
  L = IsLocated old.state.src (whole old.stream)

  -- what the parse left
  abbrev leaves : LeavesTree types_at (attr_at reading) dialects earlier L op (indices_of (marks_of new.state)) old.state.ctx.now new.state.ctx.now old.stream.rest new.stream.rest
  leaves = leaves_tree types_at (attr_at reading) before old no_names no_values no_labels op names new r

  whole_tree : WholeOperations (operation r.tree.own r.tree.regions no_operations)
  whole_tree = kept.whole_tree types_at types_written reading written dialects types_split splits words short_types short_owns accepted L op earlier (indices_of (marks_of new.state)) old.state.ctx.now new.state.ctx.now old.stream.rest new.stream.rest leaves

  no_values_open : names.values ≡ []
  no_values_open = kept.no_values types_at types_written reading written dialects types_split splits words short_types short_owns accepted L op earlier (indices_of (marks_of new.state)) old.state.ctx.now new.state.ctx.now old.stream.rest new.stream.rest leaves

  no_labels_open : names.labels ≡ []
  no_labels_open = kept.no_labels types_at types_written reading written dialects types_split splits words short_types short_owns accepted L op earlier (indices_of (marks_of new.state)) old.state.ctx.now new.state.ctx.now old.stream.rest new.stream.rest leaves

  marked : indices_of r.marks ≡ tree_marks dialects r.tree
  marked = indices_carried r.made (marks_in r.tree) r.marks r.carried ∙ (marks_are (isolated dialects) r.tree ∙ sym (marks_in_root (isolated dialects) r.tree whole_tree))

  module _ (older : AllOlder old.state.ctx.now.graph.made old.state.ctx.now.graph) (keeps : KeepsOlder old.state.ctx.now.graph.made old.state.ctx.now new.state.ctx.now) (carries : Carries before old names new)
      (nest : graphs.Nested (children new.state.ctx.now.graph) (parent new.state.ctx.now.graph)) (holders : (c k : Object) → parent old.state.ctx.now.graph c ≡ Some k → IsLive old.state.ctx.now.graph k) where
    sound : IsSound old.state.ctx.now.graph.made names new.state
    sound = carries.sound old.state.ctx.now.graph.made (le_refl old.state.ctx.now.graph.made) (fresh_sound before old.state no_names no_values no_labels older)

    -- what was made is closed
    closed : LeavesClosed old.state.ctx.now new.state.ctx.now
    closed = record {
      older = older;
      kept = keeps;
      none = none_left old.state.ctx.now.graph.made names.values names.labels new.state.ctx.now.graph no_values_open no_labels_open sound.waiting;
      blanks = sound.blanks;
      nest = nest;
      holders = holders;
    }

    abbrev first : ℕ → Written A
    first = location_of new.state.ctx.now.paths old.state.src (whole old.stream)

    tells : (n : ℕ) (l : Location A) → L n l → location_over new.state.ctx.now.paths l ≡ first n
    tells n l e = place_written new.state.ctx.now.paths old.state.src (whole old.stream) n l e

    pub reads_tree : ReadsTree types_at (attr_at reading) op old new
    reads_tree = record {
      accepted = accepted;
      moves = r.moves;
      leaves = leaves;
      closed = closed;
      builds = kept.tree_builds types_at types_written reading written dialects types_split splits words short_types short_owns accepted L op earlier (indices_of (marks_of new.state)) old.state.ctx.now new.state.ctx.now old.stream.rest new.stream.rest leaves closed first tells;
      only = kept.tree_only types_at types_written reading written dialects types_split splits words short_types short_owns accepted L op earlier (indices_of (marks_of new.state)) old.state.ctx.now new.state.ctx.now old.stream.rest new.stream.rest leaves closed first tells;
      marks = r.marks;
      noted = r.noted;
      carried = r.carried;
      falls = r.falls;
      marked = marked;
    }
