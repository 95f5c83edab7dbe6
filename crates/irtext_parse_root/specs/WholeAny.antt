-- For callers: what parsing a whole text promises on any state, in which marks of earlier roots may be recorded.
use Rattle.std.specs.Prelude.{◌≡◌, ℕ, true, cond, List}
use Rattle.irtext_base.specs.Text.{Text}
use Rattle.irtext_base.specs.Answers.{Outcome, Read}
use Rattle.irtext_base.specs.Locations.{AttrView}
use Rattle.irtext_base.specs.Paths.{Written}
use Rattle.irtext_base.specs.declared.parsable.fault.ParseFault.{ParseFault}
use Rattle.irtext_graph.specs.declared.arena.Ptr.{Ptr}
use Rattle.irtext_graph.specs.declared.object.Operation.{Operation}
use Rattle.irtext_parse_state.specs.States.{marks_of}
use Rattle.irtext_parse_state.specs.declared.parsable.state.StateStream.{StateStream}
use Rattle.irtext_grammar.specs.Contexts.Held.{whole}
use Rattle.irtext_grammar.specs.Grammar.Section.{Entry}
use Rattle.irtext_grammar.specs.Promises.Section.{indices_of, is_noted}
use Rattle.irtext_grammar.specs.Entries.{section_at}
use Rattle.irtext_parse_section.specs.Said.{rules_of}
use Rattle.irtext_parse_root.specs.AnyState.{ReadsTree, ReadsAny, MissesAny}
use Rattle.irtext_parse_root.specs.Whole.{EndsAfter, ExpectsEnd}

module _ {T A U : Type 0} (attr : Text → Outcome (AttrView A)) where
  -- the text at the position of the stream parses as the section of all recorded marks, and this is the rest after it
  abbrev pub HasSection : StateStream T A U → Text → Type 0
  HasSection s rest = (entries : List (Entry ℕ A (Written A))) × (taken : Text)
      × (section_at attr (indices_of (marks_of s.state)) (rules_of (marks_of s.state)) s.stream.rest ≡ Read entries taken rest)

  -- this is the rest of the text after the section of all recorded marks, or from the position of the stream if no mark is recorded
  abbrev pub IsRest : StateStream T A U → Text → Type 0
  IsRest s rest = cond (is_noted (marks_of s.state)) (HasSection s rest) (rest ≡ s.stream.rest)

module _ {T A U : Type 0} (types_at : Text → Outcome T) (attr : Text → Outcome (AttrView A)) where
  -- an operation was parsed, and if a mark is recorded then, the section of all recorded marks, the earlier ones too; and only white
  -- space was left after it, which was consumed
  abbrev pub ReadsWholeAny : Ptr Operation → StateStream T A U → StateStream T A U → Type 0
  ReadsWholeAny op = EndsAfter (ReadsAny types_at attr true op)

  -- no operation was parsed, or not the section of all recorded marks after it; or both were parsed, but something else than white space
  -- is left
  pub data MissesWholeAny (old : StateStream T A U) (fault : ParseFault A) : Type 0 where
    no_root : MissesAny types_at attr true old fault → MissesWholeAny old fault
    more_left : (op : Ptr Operation) (mid : StateStream T A U) → ReadsTree types_at attr op old mid
        → (rest : Text) → IsRest attr mid rest → ExpectsEnd (whole old.stream) rest fault → MissesWholeAny old fault
