-- For callers: what stands at the places that a second look finds.
use Rattle.std.specs.Prelude.{◌≡◌, ◌⊎◌, ℕ, codes, length, ◌++◌}
use Rattle.irtext_base.specs.Text.{Text}
use Rattle.irtext_base.specs.Reading.{Reading, ◌▸◌, literal, identifier}
use Rattle.irtext_base.specs.Stream.{IsAt}
use Rattle.irtext_stream.specs.declared.position.SourcePosition.{SourcePosition}
use Rattle.irtext_survey.specs.declared.notes.Mention.{Mention}
use Rattle.irtext_survey.specs.declared.notes.Mention.TheVariants.{UsesValue, UsesLabel, DefinesValue, DefinesLabel}

-- how a name is spelled where it is mentioned so: the longest identifier there is the name; the label of a block has a `^` before it
abbrev pub spelled : Mention → Text → Reading
spelled UsesValue name = identifier name
spelled UsesLabel name = identifier name
spelled DefinesValue name = identifier name
spelled DefinesLabel name = literal (codes "^") ▸ identifier name

-- at this place of the text, so many characters before its end, stands what the reading parses
pub record HasAt (text : Text) (reading : Reading) (place : ℕ) : Type 0 where
  pub before : Text
  pub rest : Text
  pub same : before ++ rest ≡ text
  pub counts : length rest ≡ place
  pub left : Text
  pub reads : reading rest left

-- the same of a line and a column
pub record Stands (text : Text) (reading : Reading) (at : SourcePosition) : Type 0 where
  pub before : Text
  pub rest : Text
  pub same : before ++ rest ≡ text
  pub is_at : IsAt at.line at.column before
  pub left : Text
  pub reads : reading rest left

-- the name is used there
abbrev pub IsUsedAt : Text → Text → SourcePosition → Type 0
IsUsedAt text name at = Stands text (identifier name) at

-- the name is defined there, as that of a value or as the label of a block
abbrev pub IsDefinedAt : Text → Text → SourcePosition → Type 0
IsDefinedAt text name at = Stands text (spelled DefinesValue name) at ⊎ Stands text (spelled DefinesLabel name) at
