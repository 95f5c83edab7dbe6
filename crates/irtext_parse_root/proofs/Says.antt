-- What the outermost parsers of an operation and of a whole text say, from what the parse of the operation says and what follows it.
use Rattle.std.proofs.Common.{◌≡◌, ◌∙◌, ◌⊎◌, ◌↔◌, ◌&&◌, ℕ, Bool, true, false, [], Ok, Err, refl, sym, ap, inl, inr}
use Rattle.std.specs.Prelude.{IsTrue}
use Rattle.irtext_base.specs.Format.{Id}
use Rattle.irtext_base.specs.declared.parsable.fault.ParseFault.{ParseFault}
use Rattle.irtext_base.specs.declared.text.IrText as ir_text
use Rattle.irtext_context.proofs.Kept.{kept_trans}
use Rattle.irtext_context.specs.Context.{KeepsOlder}
use Rattle.irtext_graph.specs.declared.arena.Ptr.{Ptr}
use Rattle.irtext_graph.specs.declared.object.Operation.{Operation}
use Rattle.irtext_tokens.proofs.Steps.{alone}
use Rattle.irtext_parse_state.specs.States.{KeepsRest, IsFresh, marks_of}
use Rattle.irtext_parse_state.specs.declared.parsable.state.StateStream.{StateStream}
use Rattle.irtext_grammar.specs.Contexts.Formats.{IsAccepted}
use Rattle.irtext_grammar.specs.Contexts.Held.{whole}
use Rattle.irtext_grammar.specs.Promises.Root.{UnlessMemory}
use Rattle.irtext_grammar.specs.Promises.Section.{indices_of, is_noted}
use Rattle.irtext_grammar.proofs.Readers.EntryIndices.{demanded_refusal}
use Rattle.irtext_grammar.specs.Readers.Refusals.{CommittedRefusal}
use Rattle.irtext_names.specs.Promises.{HasFault, RefusesWith}
use Rattle.irtext_parse_pieces.proofs.Meanings.{takes_whole}
use Rattle.irtext_parse_locations.specs.Applied.{AreNewer}
use Rattle.irtext_parse_section.specs.Section.{ReadsSection}
use Rattle.irtext_parse_root.specs.AnyState.{MissesSection, ReadsTree, no_operation, no_section}
use Rattle.irtext_parse_root.specs.Ended.{EndsAny, MissesEnd}
use Rattle.irtext_parse_root.specs.Parses.{attr, texts, CanUndo, AnswersOperation, AnswersWhole}
use Rattle.irtext_parse_root.specs.WholeAny.{no_root}
use Rattle.irtext_parse_root.proofs.Chains.{rest_both}
use Rattle.irtext_parse_root.proofs.Laws.{Laws}
use Rattle.irtext_parse_root.proofs.Outer.{both_are, marks_none, held_under, held_beside, built_alone, built_with, refused_with, fault_with}
use Rattle.irtext_parse_root.proofs.Sectioned.{marks_newer, tree_built, root_unmarked, root_marked, section_refused}
use Rattle.irtext_parse_root.proofs.WholeRoot.{whole_built, rest_refused}
use Rattle.irtext_parse_root.proofs.WholeSteps.{reads_whole, misses_whole, whole_refused}

-- ---- the operation was not parsed
module _ {T A U : Type 0} {types : ir_text.Ghosts T A} {owns : ir_text.Ghosts A A} (laws : Laws types owns) (old new : StateStream T A U) (fault : ParseFault A) (accepted : (id : Id) → IsAccepted old.state.ctx.now.dialects id)
    (missed : UnlessMemory (HasFault {T = T} types.reading (attr owns) old.state.ctx.now.dialects (indices_of (marks_of old.state)) (whole old.stream) old.stream.rest) fault) where
  refused_fresh : (look : Bool) → IsFresh old → UnlessMemory (RefusesWith (texts types) (texts owns) types.reading (attr owns) old.state.ctx.now.dialects look old.stream) fault
  refused_fresh look fresh = fault_with laws old.state.ctx.now.dialects look old.stream fault (indices_of (marks_of old.state)) (ap indices_of fresh.marks) missed

  pub operation_missed : (look : Bool) → AnswersOperation types owns look old (Err fault) new
  operation_missed look = record {
    read = tt;
    missed = λ fine. elim missed [ inl ran_out ↦ inl ran_out | inr has ↦ inr (no_operation accepted has) ];
    builds = λ fresh. tt;
    unresolved = refused_fresh look;
  }

  pub root_missed : AnswersWhole types owns old (Err fault) new
  root_missed = record {
    read = tt;
    missed = λ fine. elim missed [ inl ran_out ↦ inl ran_out | inr has ↦ inr (no_root (no_operation accepted has)) ];
    builds = λ fresh. tt;
    unresolved = λ fresh. whole_refused (texts types) (texts owns) types.reading (attr owns) (refused_fresh true fresh);
  }

-- ---- it was parsed
module _ {T A U : Type 0} {types : ir_text.Ghosts T A} {owns : ir_text.Ghosts A A} (laws : Laws types owns) (op : Ptr Operation) (old mid : StateStream T A U) (tree : ReadsTree types.reading (attr owns) op old mid) where
  -- what follows it was not parsed: then it can be undone
  pub rest_undoable : {X : Type 0} → old.stream.failed ≡ false → (earlier : Bool) → (IsTrue earlier ↔ (marks_of old.state ≡ [] → ⊥)) → (new : StateStream T A U) (fault : ParseFault A) → KeepsRest old.state mid.state → KeepsRest mid.state new.state
      → CommittedRefusal mid.stream fault new.stream → marks_of new.state ≡ marks_of mid.state → KeepsOlder old.state.ctx.now.graph.made old.state.ctx.now mid.state.ctx.now
      → ((m : ℕ) → (earlier ≡ false → AreNewer m mid.state.ctx.now (marks_of mid.state)) → KeepsOlder m mid.state.ctx.now new.state.ctx.now) → CanUndo {X = X} old (Err fault) new
  rest_undoable fine earlier has new fault first second refused marks kept unchanged =
      let failed = ap (λ v. v.failed) tree.moves.takes.is in
      record {
        rest = rest_both first second;
        refused = demanded_refusal (λ e. sym failed ∙ e) refused;
        noted = (tree.marks, marks ∙ tree.noted);
        kept = kept_trans kept (unchanged old.state.ctx.now.graph.made (λ none. marks_newer laws op old mid tree (marks_none (marks_of old.state) earlier has none)));
      }

  -- no section is looked for, or no mark is recorded
  pub operation_alone : (look : Bool) → (look && is_noted (marks_of mid.state)) ≡ false → (look ≡ false) ⊎ (marks_of mid.state ≡ []) → AnswersOperation types owns look old (Ok op) mid
  operation_alone look bare none = record {
    read = record { mid = mid; operation = tree; section = held_beside _ _ bare refl };
    missed = λ fine. tt;
    builds = λ fresh. built_alone (texts types) (texts owns) (attr owns) op old mid look none (tree_built laws op old mid tree fresh.marks) (root_unmarked laws op old mid tree fresh.marks);
    unresolved = λ fresh. tt;
  }

  -- the section is looked for
  module _ (look : Bool) (looks : look ≡ true) (noted : is_noted (marks_of mid.state) ≡ true) (some : marks_of mid.state ≡ [] → ⊥) (new : StateStream T A U) where
    pub section_missed : (fault : ParseFault A) → MissesSection (attr owns) mid fault → AnswersOperation types owns look old (Err fault) new
    section_missed fault missed = record {
      read = tt;
      missed = λ fine. inr (no_section op mid tree (both_are look _ looks noted) missed);
      builds = λ fresh. tt;
      unresolved = λ fresh. refused_with (texts types) (texts owns) types.reading (attr owns) old.state.ctx.now.dialects look old.stream fault looks
          (section_refused laws op old mid tree fresh.marks some fault missed);
    }

    pub section_read : ReadsSection (attr owns) mid new → (IsFresh old → KeepsOlder old.state.ctx.now.graph.made mid.state.ctx.now new.state.ctx.now) → AnswersOperation types owns look old (Ok op) new
    section_read read later = record {
      read = record { mid = mid; operation = tree; section = held_under _ _ (both_are look _ looks noted) read };
      missed = λ fine. tt;
      builds = λ fresh. built_with (texts types) (texts owns) (attr owns) op old new look looks (root_marked laws op old mid tree fresh.marks some new read (later fresh));
      unresolved = λ fresh. tt;
    }

  -- what follows it up to the end of the text
  pub rest_missed : (new : StateStream T A U) (fault : ParseFault A) → UnlessMemory (MissesEnd (attr owns) mid) fault → AnswersWhole types owns old (Err fault) new
  rest_missed new fault missed = record {
    read = tt;
    missed = λ fine. misses_whole types.reading (attr owns) op old mid tree fault (takes_whole alone old.stream mid.stream tree.moves.taken mid.stream.rest tree.moves.takes) missed;
    builds = λ fresh. tt;
    unresolved = λ fresh. rest_refused laws op old mid tree fresh.marks fault missed;
  }

  pub rest_read : (new : StateStream T A U) → EndsAny (attr owns) mid new → (IsFresh old → KeepsOlder old.state.ctx.now.graph.made mid.state.ctx.now new.state.ctx.now) → AnswersWhole types owns old (Ok op) new
  rest_read new ends later = record {
    read = reads_whole types.reading (attr owns) op old mid tree new ends;
    missed = λ fine. tt;
    builds = λ fresh. whole_built laws op old mid tree fresh.marks new ends (later fresh);
    unresolved = λ fresh. tt;
  }
