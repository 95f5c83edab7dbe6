-- The end of a whole text, and the text before it.
use Rattle.std.proofs.Common.{◌≡◌, ◌∙◌, ◌-◌, ℕ, true, false, Option, Result, Ok, Err, [], ◌∷◌, ◌++◌, length, take, refl, sym, ap, subst, inl, inr, append-nil, append_assoc, is_some, true≢false}
use Rattle.std.specs.Prelude.{OnOk}
use Rattle.std.specs.Char.{is_whitespace}
use Rattle.irtext_base.specs.Text.{Text, front, after_space}
use Rattle.irtext_base.specs.Own.{Texts}
use Rattle.irtext_base.specs.Stream.{StreamView, IsAt, first_of}
use Rattle.irtext_base.specs.Faults.{Unexpected, TheEnd}
use Rattle.irtext_base.specs.Answers.{Outcome, Takes, Commits}
use Rattle.irtext_base.specs.Locations.{AttrView}
use Rattle.irtext_base.specs.declared.parsable.fault.ParseFault.{ParseFault}
use Rattle.irtext_graph.specs.declared.arena.Ptr.{Ptr}
use Rattle.irtext_graph.specs.declared.object.Operation.{Operation}
use Rattle.irtext_parse_state.specs.declared.parsable.state.StateStream.{StateStream}
use Rattle.irtext_parse_state.specs.States.{marks_of}
use Rattle.irtext_grammar.specs.Contexts.Held.{whole}
use Rattle.irtext_grammar.specs.Promises.Section.{is_noted}
use Rattle.irtext_grammar.specs.Readers.NewPaths.{AddsPaths}
use Rattle.irtext_grammar.specs.Readers.Refusals.{CommittedRefusal}
use Rattle.irtext_grammar.specs.Readers.Streams.{itself, replaced}
use Rattle.irtext_grammar.specs.Promises.Root.{UnlessMemory}
use Rattle.irtext_names.specs.Promises.{RefusesRoot}
use Rattle.irtext_parse_locations.specs.Applied.{GivesAll}
use Rattle.irtext_parse_section.specs.Entries.{items_of, once_of}
use Rattle.irtext_parse_locations.specs.declared.said.Entries.{Entries}
use Rattle.irtext_parse_section.proofs.SectionSteps.{SectionRead, reads_section}
use Rattle.irtext_parse_root.specs.AnyState as any
use Rattle.irtext_parse_root.specs.AnyState.{ReadsTree}
use Rattle.irtext_parse_root.specs.Ended.{EndsAny, MissesEnd, wrong_section, not_ended}
use Rattle.irtext_parse_root.specs.Whole.{OnlySpace, ExpectsEnd, RefusesWhole}
use Rattle.irtext_parse_root.specs.WholeAny.{ReadsWholeAny, MissesWholeAny, no_root, more_left}
use Rattle.irtext_parse_root.proofs.Outer.{held_under}
use Rattle.irtext_parse_root.proofs.SectionFirst.{front_is}

-- ---- the end
-- a text without a first character is empty
none_first : (text : Text) (o : Option ℕ) → o ≡ first_of text → is_some o ≡ false → text ≡ []
none_first [] o e h = refl
none_first (c ∷ text) o e h = absurd (true≢false (sym (ap is_some e) ∙ h))

module _ {old new : StreamView} (passes : Takes itself replaced (front is_whitespace old.rest) (after_space old.rest) old new) (next : Option ℕ) (is_next : next ≡ first_of new.rest) where
  -- what follows the white space
  following : new.rest ≡ after_space old.rest
  following = ap (λ v. v.rest) passes.is

  -- only white space was left
  pub ends_here : is_some next ≡ false → OnlySpace old new
  ends_here h =
      let space = sym following ∙ none_first new.rest next is_next h in
      record { space = space; passes = subst (λ r. Takes itself replaced (front is_whitespace old.rest) r old new) space passes }

  -- something else was left
  pub expects_end : {A : Type 0} {failed : StreamView} {fault : ParseFault A} → is_some next ≡ true → Commits itself replaced (Unexpected (first_of new.rest) TheEnd) [] new fault failed → ExpectsEnd (whole old) old.rest fault
  expects_end {fault = fault} h k = go (after_space old.rest) refl
    where
      go : (text : Text) → after_space old.rest ≡ text → ExpectsEnd (whole old) old.rest fault
      go [] e = absurd (true≢false (sym h ∙ ap is_some (is_next ∙ ap first_of (following ∙ e))))
      go (c ∷ text) e =
          let before = old.passed ++ front is_whitespace old.rest in
          let all : whole old ≡ before ++ (c ∷ text) = ap (λ z. old.passed ++ z) (sym passes.same ∙ ap (λ z. front is_whitespace old.rest ++ z) e) ∙ sym (append_assoc old.passed (front is_whitespace old.rest) (c ∷ text)) in
          let at : take (length (whole old) - length (c ∷ text)) (whole old) ≡ before = ap (λ z. take (length z - length (c ∷ text)) z) all ∙ front_is before (c ∷ text) in
          record {
            more = c;
            left = text;
            follows_on = e;
            because = k.because ∙ ap (λ t. Unexpected (first_of t) TheEnd) (following ∙ e);
            flag = k.committed;
            place = subst (IsAt fault.pos.line fault.pos.column) (append-nil new.passed ∙ (ap (λ v. v.passed) passes.is ∙ sym at)) k.place;
          }

-- which is committed
pub end_refused : {A : Type 0} {old mid new : StreamView} {next : Option ℕ} {fault : ParseFault A} → Commits itself replaced (Unexpected next TheEnd) [] mid fault new → CommittedRefusal old fault new
end_refused k = record { committed = k.committed; fails = ap (λ v. v.failed) k.left.is ∙ k.left.fails; failed = λ f. absurd (cc (k.because)) }

-- ---- what follows the operation
-- a section was parsed, then only white space was left, and then each item got what its entry gives
module _ {T A U : Type 0} (E : Type 0) (attr : Text → Outcome (AttrView A)) (old mid : StateStream T A U) (entries : Entries A) (k : SectionRead E attr old mid entries) (a : AddsPaths old.state.ctx.now mid.state.ctx.now) (noted : is_noted (marks_of old.state) ≡ true)
    (spaced : StreamView) (ends : OnlySpace mid.stream spaced) where
  pub section_ends : {X F : Type 0} (new : StateStream T A U) (r : Result X F) → OnOk r (GivesAll (once_of entries) (items_of entries) mid.state.ctx.now new.state.ctx.now) → OnOk r (new.stream ≡ spaced) → OnOk r (marks_of new.state ≡ []) → OnOk r (EndsAny attr old new)
  section_ends new (Err f) gives stream fresh = tt
  section_ends new (Ok x) gives stream fresh =
      let end : StateStream T A U = record { stream = mid.stream; state = new.state } in
      record {
        end = end;
        parsed = held_under _ _ noted (reads_section E attr old mid entries k a end gives refl fresh);
        ends = subst (OnlySpace mid.stream) (sym stream) ends;
        state = refl;
      }

-- ---- on any state
module _ {T A U : Type 0} (types_at : Text → Outcome T) (attr : Text → Outcome (AttrView A)) (op : Ptr Operation) (old mid : StateStream T A U) (tree : ReadsTree types_at attr op old mid) where
  -- the operation, and what follows it
  pub reads_whole : (new : StateStream T A U) → EndsAny attr mid new → ReadsWholeAny types_at attr op old new
  reads_whole new e = record { end = e.end; parsed = record { mid = mid; operation = tree; section = e.parsed }; ends = e.ends; state = e.state }

  -- the operation, but not what has to follow it
  pub misses_whole : (fault : ParseFault A) → whole mid.stream ≡ whole old.stream → UnlessMemory (MissesEnd attr mid) fault → UnlessMemory (MissesWholeAny types_at attr old) fault
  misses_whole fault same (inl ran_out) = inl ran_out
  misses_whole fault same (inr (wrong_section noted f)) = inr (no_root (any.no_section op mid tree noted f))
  misses_whole fault same (inr (not_ended rest is e)) = inr (more_left op mid tree rest is (subst (λ text. ExpectsEnd text rest fault) same e))

-- no root was parsed, so no whole text
pub whole_refused : {T A U : Type 0} (types : Texts T) (owns : Texts A) (types_at : Text → Outcome T) (attr : Text → Outcome (AttrView A)) {old : StateStream T A U} {fault : ParseFault A} → UnlessMemory (RefusesRoot types owns types_at attr old.state.ctx.now.dialects old.stream) fault → UnlessMemory (RefusesWhole types owns types_at attr old) fault
whole_refused types owns types_at attr (inl e) = inl e
whole_refused types owns types_at attr (inr h) = inr (inl h)
