-- Between functions: what is parsed after the operation of a whole text, up to the end.
use Rattle.std.specs.Prelude.{◌≡◌, true}
use Rattle.irtext_base.specs.Text.{Text}
use Rattle.irtext_base.specs.Answers.{Outcome}
use Rattle.irtext_base.specs.Locations.{AttrView}
use Rattle.irtext_base.specs.declared.parsable.fault.ParseFault.{ParseFault}
use Rattle.irtext_parse_state.specs.States.{marks_of}
use Rattle.irtext_parse_state.specs.declared.parsable.state.StateStream.{StateStream}
use Rattle.irtext_grammar.specs.Contexts.Held.{whole}
use Rattle.irtext_grammar.specs.Promises.Section.{is_noted}
use Rattle.irtext_parse_root.specs.AnyState.{ReadsSectionIf, MissesSection}
use Rattle.irtext_parse_root.specs.Whole.{EndsAfter, ExpectsEnd}
use Rattle.irtext_parse_root.specs.WholeAny.{IsRest}

module _ {T A U : Type 0} (attr : Text → Outcome (AttrView A)) where
  -- if a mark is recorded, the section of all recorded marks was parsed; and only white space was left, which was consumed
  abbrev pub EndsAny : StateStream T A U → StateStream T A U → Type 0
  EndsAny = EndsAfter (ReadsSectionIf attr true)

  -- a mark is recorded, but the section of all recorded marks was not parsed; or something else than white space is left
  pub data MissesEnd (old : StateStream T A U) (fault : ParseFault A) : Type 0 where
    wrong_section : is_noted (marks_of old.state) ≡ true → MissesSection attr old fault → MissesEnd old fault
    not_ended : (rest : Text) → IsRest attr old rest → ExpectsEnd (whole old.stream) rest fault → MissesEnd old fault
