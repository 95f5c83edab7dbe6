-- For callers: what a text is to the parser of a line and a column, with the cause and place of each fault.
use Rattle.std.specs.Prelude.{ℤ, codes}
use Rattle.irtext_base.specs.Text.{Text}
use Rattle.irtext_base.specs.Answers.{Outcome}
use Rattle.irtext_tokens.specs.Infix.{◌▷◌, ◌▶◌, ◌⇒◌}
pub use Rattle.irtext_tokens.specs.Tokens.{space_at}
pub use Rattle.irtext_tokens.specs.Demanded.{spaced_at}
use Rattle.irtext_tokens.specs.Tokens.{word, integer_at}
use Rattle.irtext_stream.specs.declared.position.SourcePosition.{SourcePosition}

-- a word, `:` and a number
abbrev pub labelled_at : Text → Text → Outcome ℤ
labelled_at w = word w ▷ spaced_at (codes ":") ▷ integer_at

-- a line and a column
abbrev pub position_at : Text → Outcome SourcePosition
position_at = labelled_at (codes "line") ▶ λ line. spaced_at (codes ",") ▷ labelled_at (codes "column") ⇒ λ column. record { line = line; column = column }
