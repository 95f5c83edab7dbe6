-- For callers: what parsing a section does: what it parses, and what each item has then. An item is an operation or a block that carries
-- a mark.
use Rattle.std.specs.Prelude.{◌≡◌, ℕ, List, []}
use Rattle.irtext_base.specs.Text.{Text}
use Rattle.irtext_base.specs.Answers.{Outcome, Read}
use Rattle.irtext_base.specs.Locations.{AttrView}
use Rattle.irtext_base.specs.Paths.{Written}
use Rattle.irtext_context.specs.Context.{ContextView}
use Rattle.irtext_parse_state.specs.States.{marks_of}
use Rattle.irtext_parse_state.specs.declared.parsable.state.StateStream.{StateStream}
use Rattle.irtext_grammar.specs.Grammar.Section.{Entry}
use Rattle.irtext_grammar.specs.Promises.Section.{indices_of, Moves}
use Rattle.irtext_grammar.specs.Readers.NewPaths.{AddsPaths}
use Rattle.irtext_grammar.specs.Entries.{section_at}
use Rattle.irtext_parse_locations.specs.Applied.{AppliesAll}
use Rattle.irtext_parse_section.specs.Entries.{all_entries_kept}
use Rattle.irtext_parse_section.specs.Said.{rules_of}

-- A section was parsed from the old position of the stream to the new one, after a root with these marks. The context keeps the paths of
-- the locations that the entries give, in the order of the text. Each item got what its entry gives, and no mark is recorded any more.
pub record ReadsSection {T A U : Type 0} (attr : Text → Outcome (AttrView A)) (old new : StateStream T A U) : Type 0 where
  pub entries : List (Entry ℕ A (Written A))
  pub taken : Text
  pub reads : section_at attr (indices_of (marks_of old.state)) (rules_of (marks_of old.state)) old.stream.rest ≡ Read entries taken new.stream.rest
  pub moves : Moves old.stream new.stream
  pub middle : ContextView T A
  pub adds : AddsPaths old.state.ctx.now middle
  pub paths : middle.paths ≡ all_entries_kept old.state.ctx.now.paths entries
  pub applied : AppliesAll (marks_of old.state) middle.paths entries entries middle new.state.ctx.now
  pub fresh : marks_of new.state ≡ []
