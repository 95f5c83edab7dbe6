-- For callers: the parts of the promise that the text of a root is parsed back.
use Rattle.std.specs.Prelude.{true, false, FitsSigned}
use Rattle.std.specs.Int.{w32}
use Rattle.irtext_base.specs.Text.{Text}
use Rattle.irtext_base.specs.Locations.{src_pos}
use Rattle.irtext_base.specs.Paths.{Written}
use Rattle.irtext_stream.specs.declared.position.SourcePosition.{SourcePosition}
use Rattle.irtext_grammar.specs.Spelling.Locations.{written_text}
use Rattle.irtext_grammar.specs.Graphs.Same.{Locations}

-- the text of a location, and whether it is a position in a source
abbrev pub locations : {A : Type 0} → (A → Text) → Locations (Written A)
locations written = record { text = written_text written; is_position = λ l. elim l [ src_pos source at ↦ true | _ ↦ false ] }

-- a line and a column fit 32 bits with a sign
pub record Fits32 (at : SourcePosition) : Type 0 where
  pub line : FitsSigned w32 at.line
  pub column : FitsSigned w32 at.column
