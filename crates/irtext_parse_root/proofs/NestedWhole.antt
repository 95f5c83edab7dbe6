-- What the nested parser leaves if no name was known, and which faults it returns: the machine of names begins with the marks that are
-- recorded.
use Rattle.std.proofs.Common.{◌≡◌, ◌∙◌, ℕ, true, List, [], ◌++◌, ap, subst, append-nil, inl, inr}
use Rattle.irtext_base.specs.Text.{Text}
use Rattle.irtext_base.specs.Locations.{AttrView}
use Rattle.irtext_base.specs.declared.parsable.fault.ParseFault.{ParseFault}
use Rattle.irtext_context.specs.Dialects.{Table}
use Rattle.irtext_graph.specs.declared.arena.Ptr.{Ptr}
use Rattle.irtext_graph.specs.declared.object.Operation.{Operation}
use Rattle.irtext_tokens.specs.Infix.{Reader}
use Rattle.irtext_parse_state.specs.States.{marks_of}
use Rattle.irtext_parse_state.specs.declared.parsable.state.StateStream.{StateStream}
use Rattle.irtext_grammar.specs.Contexts.Held.{whole}
use Rattle.irtext_grammar.specs.Names.History.{Outcome, going}
use Rattle.irtext_grammar.specs.Names.Script.{Path}
use Rattle.irtext_names.specs.OfItems.{AreOf}
use Rattle.irtext_grammar.specs.Reached.{Advanced, operation_at}
use Rattle.irtext_grammar.specs.Promises.Root.{UnlessMemory}
use Rattle.irtext_grammar.specs.Promises.Section.{indices_of}
use Rattle.irtext_names.specs.Leaves.{LeavesTree}
use Rattle.irtext_names.specs.Promises.{start_with, HasFault, at_text, by_names}
use Rattle.irtext_names.specs.Items.{Names, MachineAgrees, doing}
use Rattle.irtext_names.specs.Located.{IsLocated}
use Rattle.irtext_parse_root.specs.Nested as nested
use Rattle.irtext_parse_root.specs.Nested.{ReadsNested, RefusesNested}
use Rattle.irtext_parse_root.proofs.Fresh.{begun_agrees}

module _ {T A U : Type 0} (types_at : Reader T) (attr : Reader (AttrView A)) (before : Names) (old : StateStream T A U)
    (no_names : before.names ≡ []) (no_values : before.values ≡ []) (no_labels : before.labels ≡ []) where
  abbrev dialects : List (Text × Table)
  dialects = old.state.ctx.now.dialects

  abbrev earlier : List ℕ
  earlier = indices_of (marks_of old.state)

  -- ---- it was parsed
  module _ (op : Ptr Operation) (names : Names) (new : StateStream T A U) (r : ReadsNested types_at attr before old op names new) where
    -- the state of the machine after it
    pub at_end : (path : ℕ → Path) → (z : Outcome) × MachineAgrees path (r.made ++ []) [] names new.state z
        × (operation_at dialects types_at attr (doing dialects path) true old.stream.rest (going (start_with earlier)) ≡ Advanced tt z new.stream.rest)
    at_end path = r.runs path [] (going (start_with earlier)) (begun_agrees before old.state no_names no_values no_labels path)

    abbrev pub leaves_tree : LeavesTree types_at attr dialects earlier (IsLocated old.state.src (whole old.stream)) op (indices_of (marks_of new.state)) old.state.ctx.now new.state.ctx.now old.stream.rest new.stream.rest
    leaves_tree = record {
      tree = r.tree;
      built = r.builds;
      items = r.made;
      whole = r.objects;
      held = r.holds;
      machine = λ path. let z = at_end path in record {
        names = names;
        known = z.1.known;
        are = subst (λ items. AreOf path items z.1.known) (append-nil r.made) z.1.of_items;
        state = z.1.state;
        agreed = z.1.agreed;
        marked = z.1.marks;
        came = z.2 ∙ ap (λ o. Advanced tt o new.stream.rest) z.1.going;
      };
    }

  -- ---- it was an error
  pub has_fault : (fault : ParseFault A) → UnlessMemory (RefusesNested types_at attr before old) fault → UnlessMemory (HasFault types_at attr dialects earlier (whole old.stream) old.stream.rest) fault
  has_fault fault (inl ran_out) = inl ran_out
  has_fault fault (inr (nested.at_text cause place f flag so)) =
      inr (at_text cause place f.because f.placed flag (λ path. so path [] (going (start_with earlier)) (begun_agrees before old.state no_names no_values no_labels path)))
  has_fault fault (inr (nested.by_names failure f so)) =
      inr (by_names failure (f.cause, f.place) f.committed (λ path. so path [] (going (start_with earlier)) (begun_agrees before old.state no_names no_values no_labels path)))
