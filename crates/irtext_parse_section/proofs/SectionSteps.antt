-- Steps of the parse of a whole section.
use Rattle.std.proofs.Common.{◌≡◌, ℕ, Bool, true, false, List, [], Ok, refl, sym, ap, subst}
use Rattle.irtext_base.specs.Text.{Text}
use Rattle.irtext_base.specs.Stream.{StreamView}
use Rattle.irtext_base.specs.Answers.{Outcome, Read, RunsOutHere}
use Rattle.irtext_base.specs.Locations.{AttrView}
use Rattle.irtext_base.specs.Paths.{Written}
use Rattle.irtext_base.specs.declared.parsable.fault.ParseFault.{ParseFault}
use Rattle.irtext_context.specs.Context.{ContextView, KeepsOlder}
use Rattle.irtext_context.proofs.Kept.{kept_trans}
use Rattle.irtext_graph.specs.Back.{IsClosedBelow}
use Rattle.irtext_parse_state.specs.States.{marks_of}
use Rattle.irtext_parse_state.specs.declared.parsable.state.StateStream.{StateStream}
use Rattle.irtext_grammar.specs.Grammar.Section.{Entry}
use Rattle.irtext_grammar.specs.Promises.Section.{indices_of, IsOutOfMemory, Moves}
use Rattle.irtext_grammar.specs.Readers.NewPaths.{AddsPaths}
use Rattle.irtext_grammar.specs.Readers.Refusals.{CommittedRefusal}
use Rattle.irtext_grammar.specs.Readers.Streams.{itself, replaced}
use Rattle.irtext_grammar.proofs.Readers.Answered.{answered}
use Rattle.irtext_grammar.proofs.Readers.NewPaths.{adds_kept}
use Rattle.irtext_parse_pieces.specs.Named.{whole, MustMean}
use Rattle.irtext_grammar.specs.Entries.{section_at}
use Rattle.irtext_parse_locations.specs.Applied.{GivesAll, ItemsAreNewer, AreNewer}
use Rattle.irtext_parse_section.specs.Entries.{AreEntriesOver, items_of, once_of}
use Rattle.irtext_parse_section.specs.Said.{rules_of}
use Rattle.irtext_parse_section.specs.Section.{ReadsSection}
use Rattle.irtext_parse_locations.specs.declared.said.Entries.{Entries}
use Rattle.irtext_parse_section.proofs.AppliedEntries.{applies_all, entries_newer, still_newer}

-- more paths close nothing and open nothing
pub adds_closed : {T A : Type 0} (mark : ℕ) (old new : ContextView T A) → AddsPaths old new → IsClosedBelow mark old.graph → IsClosedBelow mark new.graph
adds_closed {T} {A} mark old new a h = subst (λ g. IsClosedBelow mark g) (sym (ap (λ (c : ContextView T A). c.graph) a.rest)) h

-- out of memory after what was parsed
pub ran_out_refusal : {A : Type 0} {old mid new : StreamView} {fault : ParseFault A} → RunsOutHere itself replaced mid fault new → CommittedRefusal old fault new
ran_out_refusal h = record { committed = h.committed; fails = ap (λ v. v.failed) h.left; failed = λ f. absurd (cc (h.because)) }

-- out of memory
pub ran_out_there : {A : Type 0} {mid new : StreamView} {fault : ParseFault A} → RunsOutHere itself replaced mid fault new → IsOutOfMemory fault
ran_out_there h = record { because = h.because; flag = h.committed }

-- whichever a test says
pub either_way : {P : Type 0} (t : Bool) → (t ≡ true → P) → (t ≡ false → P) → P
either_way true f g = f refl
either_way false f g = g refl

-- a section was parsed, to be given
abbrev pub SectionRead : {T A U : Type 0} → Type 0 → (Text → Outcome (AttrView A)) → StateStream T A U → StateStream T A U → Entries A → Type 0
SectionRead E attr old mid entries = MustMean {A = E} itself replaced (AreEntriesOver (marks_of old.state) old.state.ctx.now.paths mid.state.ctx.now.paths (whole old.stream)) (section_at attr (indices_of (marks_of old.state)) (rules_of (marks_of old.state))) old.stream (Ok entries) mid.stream

module _ {T A U : Type 0} (E : Type 0) (attr : Text → Outcome (AttrView A)) (old mid : StateStream T A U) (entries : Entries A) (k : SectionRead E attr old mid entries) (a : AddsPaths old.state.ctx.now mid.state.ctx.now) where
  abbrev found : List (Entry ℕ A (Written A))
  found = k.meant entries

  -- what is older than a mark is kept, where the items that carry marks are newer
  pub given_kept : (new : ContextView T A) (mark : ℕ) → AreNewer mark old.state.ctx.now (marks_of old.state) → (ItemsAreNewer mark mid.state.ctx.now (items_of entries) → KeepsOlder mark mid.state.ctx.now new) → KeepsOlder mark old.state.ctx.now new
  given_kept new mark n h =
      let kept = adds_kept mark a in
      let newer = still_newer mark old.state.ctx.now mid.state.ctx.now kept (marks_of old.state) n in
      kept_trans kept (h (entries_newer mark mid.state.ctx.now (whole old.stream) (marks_of old.state) mid.state.ctx.now.paths (items_of entries) found k.means.are.items newer))

  -- the section was parsed and given
  pub reads_section : (new : StateStream T A U) → GivesAll (once_of entries) (items_of entries) mid.state.ctx.now new.state.ctx.now → new.stream ≡ mid.stream → marks_of new.state ≡ [] → ReadsSection attr old new
  reads_section new gives stream fresh =
      let r = answered k.read in
      let moves : Moves old.stream mid.stream = record { taken = r.taken; takes = r.takes } in
      record {
        entries = found;
        taken = r.taken;
        reads = subst (λ (v : StreamView). section_at attr (indices_of (marks_of old.state)) (rules_of (marks_of old.state)) old.stream.rest ≡ Read found r.taken v.rest) (sym stream) r.is;
        moves = subst (λ v. Moves old.stream v) (sym stream) moves;
        middle = mid.state.ctx.now;
        adds = a;
        paths = k.means.kept;
        applied = applies_all (whole old.stream) (once_of entries) found k.means.are.once (marks_of old.state) mid.state.ctx.now.paths (items_of entries) found k.means.are.items mid.state.ctx.now new.state.ctx.now gives;
        fresh = fresh;
      }
