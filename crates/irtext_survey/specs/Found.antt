-- For callers: what a second look at a root finds.
use Rattle.std.specs.Prelude.{ℕ, Bool, true, false, List, Option}
use Rattle.irtext_base.specs.Text.{Text}
use Rattle.irtext_base.specs.Stream.{StreamView}
use Rattle.irtext_base.specs.Locations.{AttrView}
use Rattle.irtext_base.specs.Paths.{Written}
use Rattle.irtext_base.specs.declared.text.IrText as ir_text
use Rattle.irtext_stream.specs.declared.position.SourcePosition.{SourcePosition}
use Rattle.irtext_context.specs.Dialects.{Table}
use Rattle.irtext_tokens.specs.Infix.{Reader}
use Rattle.irtext_grammar.specs.Contexts.Held.{whole}
use Rattle.irtext_grammar.specs.Grammar.Marked.{reads_root}
use Rattle.irtext_grammar.specs.Grammar.Section.{Entry}
use Rattle.irtext_grammar.specs.Grammar.Tree.{Tree}
use Rattle.irtext_grammar.specs.Promises.Section.{Moves}
use Rattle.irtext_grammar.specs.Promises.Supported.{supported, location_verdict}
use Rattle.irtext_parse_root.specs.Parses.{texts, attr}
use Rattle.irtext_survey.specs.Notes.{noted_in, IsFound}
use Rattle.irtext_survey.specs.declared.notes.Note.{Note}

module _ {T A : Type 0} (types_at : Reader T) (attr : Reader (AttrView A)) (dialects : List (Text × Table)) where
  -- what was found is what is looked for in the notes of this name in the root that comes next
  abbrev pub Finds : Text → (Text → List (Note ℕ) → Option ℕ) → StreamView → Option SourcePosition → Type 0
  Finds name looked v found = IsFound (whole v) (looked (whole v) (noted_in dialects types_at attr name v.rest).notes) found

module _ {T A : Type 0} (types : ir_text.Ghosts T A) (owns : ir_text.Ghosts A A) (dialects : List (Text × Table)) where
  -- A root was consumed: the text up to the new position parses as a tree and, exactly if the tree has a mark, its section. Whether they
  -- resolve makes no difference.
  pub record Skipped (old new : StreamView) : Type 0 where
    pub tree : Tree ℕ T A
    pub entries : List (Entry ℕ A (Written A))
    pub reads : reads_root (supported dialects (texts types) (texts owns)) (location_verdict (attr owns)) tree entries old.rest new.rest
    pub moves : Moves old new

  -- no text that comes next parses as a tree and its section
  pub record HasNoRoot (text : Text) : Type 0 where
    pub none : (tree : Tree ℕ T A) (entries : List (Entry ℕ A (Written A))) (rest : Text) → reads_root (supported dialects (texts types) (texts owns)) (location_verdict (attr owns)) tree entries text rest → ⊥

  -- one or the other, and which
  abbrev pub Skips : StreamView → Bool → StreamView → Type 0
  Skips old true new = Skipped old new
  Skips old false new = HasNoRoot old.rest
