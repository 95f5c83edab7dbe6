-- A root that is parsed takes at least one character of the text.
use Rattle.std.proofs.Common.{◌≡◌, ◌<◌, ◌≤◌, ℕ, Bool, true, false, cond, [], ◌∷◌, length, sym, subst, arith, le_refl}
use Rattle.irtext_base.specs.Text.{Text}
use Rattle.irtext_base.specs.Answers.{Outcome}
use Rattle.irtext_base.specs.Locations.{AttrView}
use Rattle.irtext_graph.specs.Chained.{Among}
use Rattle.irtext_graph.specs.declared.arena.Ptr.{Ptr}
use Rattle.irtext_graph.specs.declared.object.Object.{Object}
use Rattle.irtext_graph.specs.declared.object.Operation.{Operation}
use Rattle.irtext_grammar.specs.Promises.Section.{is_noted}
use Rattle.irtext_grammar.specs.Tracks.{Made}
use Rattle.irtext_parse_root.proofs.Nearer.{moves_fewer}
use Rattle.irtext_parse_root.specs.AnyState.{ReadsTree, ReadsAny}
use Rattle.irtext_parse_root.specs.Carried.{Falls}
use Rattle.irtext_parse_section.specs.Section.{ReadsSection}
use Rattle.irtext_parse_state.specs.States.{marks_of}
use Rattle.irtext_parse_state.specs.declared.parsable.state.StateStream.{StateStream}

falls_low : (above : ℕ) (items : Made) (below : ℕ) → Falls above items below → below ≤ above
falls_low above [] below h = h
falls_low above (made ∷ items) below h = let k = falls_low above items made.0 h.1 in let l = h.0 in omega (arith, k, l)

-- where an item is recorded, less is left than there was
falls_lower : (place : ℕ) (o : Object) (above : ℕ) (items : Made) (below : ℕ) → Among (place, o) items → Falls above items below → below < above
falls_lower place o above [] below a h = absurd a
falls_lower place o above (made ∷ items) below a h = let k = falls_low above items made.0 h.1 in let l = h.0 in omega (arith, k, l)

module _ {T A U : Type 0} (types_at : Text → Outcome T) (attr : Text → Outcome (AttrView A)) where
  tree_shorter : (op : Ptr Operation) (old mid : StateStream T A U) → ReadsTree types_at attr op old mid → length mid.stream.rest < length old.stream.rest
  tree_shorter op old mid h =
      let place = h.leaves.held.so_far.tree.1.2.location in
      falls_lower _ _ (length old.stream.rest) h.leaves.items (length mid.stream.rest) place.0 h.falls

  section_fewer : (noted : Bool) (mid new : StateStream T A U) → cond noted (ReadsSection attr mid new) (new ≡ mid) → length new.stream.rest ≤ length mid.stream.rest
  section_fewer true mid new h = moves_fewer mid.stream new.stream h.moves
  section_fewer false mid new e = subst (λ s. length s.stream.rest ≤ length mid.stream.rest) (sym e) (le_refl (length mid.stream.rest))

  pub root_shorter : (op : Ptr Operation) (old new : StateStream T A U) → ReadsAny types_at attr true op old new → length new.stream.rest < length old.stream.rest
  root_shorter op old new h =
      let k = tree_shorter op old h.mid h.operation in
      let l = section_fewer (is_noted (marks_of h.mid.state)) h.mid new h.section in
      omega (arith, k, l)
