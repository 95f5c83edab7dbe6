-- Steps of the loop over entries.
use Rattle.std.proofs.Common.{◌≡◌, ◌∙◌, ◌<◌, ℕ, Bool, true, false, List, [], ◌∷◌, ◌++◌, length, Result, Ok, Err, refl, sym, ap, subst}
use Rattle.std.specs.Char.{is_whitespace}
use Rattle.irtext_base.specs.Text.{Text, begins, front, after}
use Rattle.irtext_base.specs.Reading.{the}
use Rattle.irtext_base.specs.Stream.{StreamView}
use Rattle.irtext_base.specs.Answers.{Outcome, Takes, RunsOutHere}
use Rattle.irtext_base.specs.Locations.{AttrView}
use Rattle.irtext_base.specs.Paths.{Written}
use Rattle.irtext_base.specs.declared.base.attributes.AttrObj.{AttrObj}
use Rattle.irtext_base.specs.declared.parsable.fault.ParseFault.{ParseFault}
use Rattle.irtext_tokens.proofs.Steps.{alone}
use Rattle.irtext_context.specs.declared.base.item.Item.{Item}
use Rattle.irtext_parse_state.specs.States.{KeepsRest, marks_of}
use Rattle.irtext_parse_state.specs.declared.parsable.state.StateStream.{StateStream}
use Rattle.irtext_grammar.specs.Grammar.Section.{Entry}
use Rattle.irtext_grammar.specs.Names.Acts.{Rule}
use Rattle.irtext_grammar.specs.Promises.Section.{indices_of}
use Rattle.irtext_parse_section.specs.OnlyPaths.{may_follow}
use Rattle.irtext_grammar.specs.Readers.NewPaths.{AddsPaths}
use Rattle.irtext_grammar.specs.Readers.Streams.{itself, replaced}
use Rattle.irtext_grammar.proofs.Readers.Answered.{answered}
use Rattle.irtext_grammar.proofs.Readers.NewPaths.{adds_none, adds_more}
use Rattle.irtext_parse_pieces.specs.Named.{whole, MustMean}
use Rattle.irtext_parse_pieces.proofs.Meanings.{takes_whole, must_refuse}
use Rattle.irtext_grammar.specs.Entries.{entry_at, may_have, entries_after}
use Rattle.irtext_parse_section.specs.Said.{rules_of}
use Rattle.irtext_parse_section.specs.Entries.{items_of, once_of, IsEntry, Noted, nothing, one_noted, AreEntriesOver, AreItems, AreOnce, entry_kept, Notes, EntriesSoFar}
use Rattle.irtext_parse_locations.specs.declared.said.Entries.{Entries}
use Rattle.irtext_parse_locations.specs.declared.said.Entries.TheVariants as said
use Rattle.irtext_parse_locations.specs.declared.said.ItemEntry.{ItemEntry}
use Rattle.irtext_parse_locations.specs.declared.said.ReadEntry.{ReadEntry}
use Rattle.irtext_parse_locations.specs.declared.said.ReadEntry.TheVariants as read
use Rattle.irtext_parse_section.proofs.EntryLists.{test_same, entry_more, entry_fresh}
use Rattle.irtext_parse_section.proofs.LoopText.{text_begins, text_ends, text_ran_out_here, text_refused, text_ran_out, entry_shorter, text_more}

-- one entry, recorded after no other
notes_one : {A : Type 0} (e : ReadEntry A) → Notes nothing e (one_noted e)
notes_one (read.OfItem i e) = (refl, λ _. refl, refl)
notes_one (read.OfOnce i a) = (refl, refl, refl)

-- if no entry was recorded before, the record is that entry alone
pub noted_first : {A : Type 0} (old new : Noted A) (e : ReadEntry A) → old ≡ nothing → Notes old e new → new ≡ one_noted e
noted_first {A} old new e none n = go e (subst (λ z. Notes z e new) none n)
  where
    three : (items : List (ItemEntry A)) (seen : List (ℕ × Unit {0})) (once : List (ℕ × AttrObj A)) → new.items ≡ items → new.seen ≡ seen → new.once ≡ once → new ≡ record { items = items; seen = seen; once = once }
    three items seen once i s o =
        ap (λ z. record { items = z; seen = new.seen; once = new.once }) i
        ∙ (ap (λ z. record { items = items; seen = z; once = new.once }) s ∙ ap (λ z. record { items = items; seen = seen; once = z }) o)

    go : (e : ReadEntry A) → Notes nothing e new → new ≡ one_noted e
    go (read.OfItem i e) n = three (e ∷ []) ((i, tt) ∷ []) [] n.0 (n.1 refl) n.2
    go (read.OfOnce i a) n = three [] [] ((i, a) ∷ []) n.0 n.1 n.2

module _ {A : Type 0} (attr : Text → Outcome (AttrView A)) where
  -- an entry and its white space consume at least one character
  pub entries_shorter : {E : Type 0} {Means : ReadEntry A → Entry ℕ A (Written A) → Type 0} (test : ℕ → Bool) (rules : ℕ → Rule A) {now mid new : StreamView} {e : ReadEntry A} → MustMean {A = E} itself replaced Means (entry_at attr test rules) now (Ok e) mid
      → Takes itself replaced (front is_whitespace mid.rest) (after is_whitespace mid.rest) mid new → length new.rest < length now.rest
  entries_shorter test rules k left = entry_shorter attr [] rules test k.read left

module _ {T A U : Type 0} (attr : Text → Outcome (AttrView A)) where
  -- all entries of a text, after a root with the marks of a state
  abbrev pub all_of : StateStream T A U → Text → Outcome (List (Entry ℕ A (Written A)))
  all_of s t = entries_after attr (indices_of (marks_of s.state)) (rules_of (marks_of s.state)) (length t) [] t

  -- no entry was parsed yet
  pub so_far_none : (s : StateStream T A U) → s.stream.failed ≡ false → EntriesSoFar attr s s nothing
  so_far_none s fine = record {
    rest = record { src = refl; aux_data = refl };
    marks = refl;
    adds = adds_none s.state.ctx.now;
    found = [];
    are = record { are = record { items = refl; once = λ i. refl }; seen = λ i. refl; kept = refl };
    so_far = text_begins attr (indices_of (marks_of s.state)) (rules_of (marks_of s.state)) s.stream fine;
  }

  module _ (old now : StateStream T A U) (entries : Noted A) (h : EntriesSoFar attr old now entries) where
    abbrev marks : List (ℕ × Item)
    marks = marks_of old.state

    same_test : (j : ℕ) → may_follow marks entries.seen j ≡ may_have (indices_of marks) h.found j
    same_test = test_same entries.seen h.found h.are.seen marks

    same_whole : whole now.stream ≡ whole old.stream
    same_whole = takes_whole alone old.stream now.stream h.so_far.moves.taken now.stream.rest h.so_far.moves.takes

    -- out of memory after them
    pub ran_out_so_far : {E : Type 0} {Means : Entries A → List (Entry ℕ A (Written A)) → Type 0} {new : StreamView} {fault : ParseFault E} → RunsOutHere itself replaced now.stream fault new → MustMean itself replaced Means (all_of old) old.stream (Err fault) new
    ran_out_so_far s = must_refuse alone (text_ran_out_here attr (indices_of marks) (rules_of marks) h.so_far (λ _. []) s)

    -- these are all
    pub all_entries : {E : Type 0} (all : Entries A) → items_of all ≡ entries.items → once_of all ≡ entries.once → begins (the 33) now.stream.rest ≡ false
        → MustMean {A = E} itself replaced (AreEntriesOver marks old.state.ctx.now.paths now.state.ctx.now.paths (whole old.stream)) (all_of old) old.stream (Ok all) now.stream
    all_entries all items once stop = record {
      meant = λ _. h.found;
      means = record {
        are = record {
          items = subst (λ z. AreItems marks now.state.ctx.now.paths (whole old.stream) z h.found) (sym items) h.are.are.items;
          once = subst (λ z. AreOnce z h.found) (sym once) h.are.are.once;
        };
        kept = h.are.kept;
      };
      read = text_ends attr (indices_of marks) (rules_of marks) h.so_far (λ _. h.found) all refl stop;
    }

    abbrev by_now : Text → Outcome (Entry ℕ A (Written A))
    by_now = entry_at attr (may_follow (marks_of now.state) entries.seen) (rules_of (marks_of now.state))

    abbrev by_marks : Text → Outcome (Entry ℕ A (Written A))
    by_marks = entry_at attr (may_follow marks entries.seen) (rules_of marks)

    -- the next entry, by what was recorded at the beginning
    moved : {E : Type 0} (paths : List (List ℕ)) (r : Result (ReadEntry A) (ParseFault E)) (new : StreamView) → MustMean itself replaced (IsEntry (marks_of now.state) paths (whole now.stream)) by_now now.stream r new
        → MustMean itself replaced (IsEntry marks paths (whole old.stream)) by_marks now.stream r new
    moved paths r new k =
        subst (λ ms. MustMean itself replaced (IsEntry ms paths (whole old.stream)) (entry_at attr (may_follow ms entries.seen) (rules_of ms)) now.stream r new) h.marks
        (subst (λ t. MustMean itself replaced (IsEntry (marks_of now.state) paths t) by_now now.stream r new) same_whole k)

    module _ (go : begins (the 33) now.stream.rest ≡ true) where
      -- the next entry is an error
      pub entries_refused : {E : Type 0} {Means : Entries A → List (Entry ℕ A (Written A)) → Type 0} (paths : List (List ℕ)) {new : StreamView} {fault : ParseFault E}
          → MustMean itself replaced (IsEntry (marks_of now.state) paths (whole now.stream)) by_now now.stream (Err fault) new → MustMean itself replaced Means (all_of old) old.stream (Err fault) new
      entries_refused paths {new = new} {fault = fault} k =
          must_refuse alone (text_refused attr (indices_of marks) (rules_of marks) h.so_far go (may_follow marks entries.seen) same_test (λ _. []) (moved paths (Err fault) new k).read)

      module _ {E : Type 0} (mid : StateStream T A U) (e : ReadEntry A) (k : MustMean {A = E} itself replaced (IsEntry (marks_of now.state) mid.state.ctx.now.paths (whole now.stream)) by_now now.stream (Ok e) mid.stream) where
        read_there : MustMean {A = E} itself replaced (IsEntry marks mid.state.ctx.now.paths (whole old.stream)) by_marks now.stream (Ok e) mid.stream
        read_there = moved mid.state.ctx.now.paths (Ok e) mid.stream k

        -- it was parsed, and then out of memory
        pub entries_ran_out : {F : Type 0} {Means : Entries A → List (Entry ℕ A (Written A)) → Type 0} {new : StreamView} {fault : ParseFault F} → RunsOutHere itself replaced mid.stream fault new → MustMean itself replaced Means (all_of old) old.stream (Err fault) new
        entries_ran_out s = must_refuse alone (text_ran_out attr (indices_of marks) (rules_of marks) h.so_far go (may_follow marks entries.seen) same_test read_there.read (λ _. []) s)

        module _ (new : StreamView) (left : Takes itself replaced (front is_whitespace mid.stream.rest) (after is_whitespace mid.stream.rest) mid.stream new) where
          -- it was parsed, and recorded after the others
          pub entries_more : (next : Noted A) → KeepsRest now.state mid.state → marks_of mid.state ≡ marks_of now.state → AddsPaths now.state.ctx.now mid.state.ctx.now
              → mid.state.ctx.now.paths ≡ entry_kept now.state.ctx.now.paths mid.state.ctx.now.paths e → Notes entries e next → EntriesSoFar attr old (record mid { stream = new }) next
          entries_more next rest same adds kept noted =
              let x = read_there.meant e in
              let a = answered read_there.read in
              record {
                rest = record { src = rest.src ∙ h.rest.src; aux_data = rest.aux_data ∙ h.rest.aux_data };
                marks = same ∙ h.marks;
                adds = adds_more h.adds adds;
                found = h.found ++ x ∷ [];
                are = entry_more marks old.state.ctx.now.paths now.state.ctx.now.paths mid.state.ctx.now.paths (whole old.stream) entries next h.found e x adds.kept h.are
                    (entry_fresh attr (rules_of marks) marks entries.seen x now.stream.rest a.taken mid.stream.rest a.is) read_there.means kept noted;
                so_far = text_more attr (indices_of marks) (rules_of marks) h.so_far go (may_follow marks entries.seen) same_test read_there.read left;
              }

  -- a first entry was parsed, and alone is recorded
  pub first_so_far : (begin mid : StateStream T A U) {E : Type 0} (e : ReadEntry A) (new : StreamView) → begin.stream.failed ≡ false → begins (the 33) begin.stream.rest ≡ true
      → MustMean {A = E} itself replaced (IsEntry (marks_of begin.state) mid.state.ctx.now.paths (whole begin.stream)) (entry_at attr (may_follow {Y = Unit {0}} (marks_of begin.state) []) (rules_of (marks_of begin.state))) begin.stream (Ok e) mid.stream
      → Takes itself replaced (front is_whitespace mid.stream.rest) (after is_whitespace mid.stream.rest) mid.stream new
      → KeepsRest begin.state mid.state → marks_of mid.state ≡ marks_of begin.state → AddsPaths begin.state.ctx.now mid.state.ctx.now
      → mid.state.ctx.now.paths ≡ entry_kept begin.state.ctx.now.paths mid.state.ctx.now.paths e → EntriesSoFar attr begin (record mid { stream = new }) (one_noted e)
  first_so_far begin mid e new fine go k left rest same adds kept =
      entries_more begin begin nothing (so_far_none begin fine) go mid e k new left (one_noted e) rest same adds kept (notes_one e)

  -- it is the only one
  pub only_entry : {E : Type 0} (old now : StateStream T A U) (e : ReadEntry A) (i : ℕ) (entry : ItemEntry A) → e ≡ read.OfItem i entry → EntriesSoFar attr old now (one_noted e) → begins (the 33) now.stream.rest ≡ false
      → MustMean {A = E} itself replaced (AreEntriesOver (marks_of old.state) old.state.ctx.now.paths now.state.ctx.now.paths (whole old.stream)) (all_of old) old.stream (Ok (said.Only entry)) now.stream
  only_entry old now e i entry is h stop = all_entries old now (one_noted (read.OfItem i entry)) (subst (λ e. EntriesSoFar attr old now (one_noted e)) is h) (said.Only entry) refl refl stop
