-- Between functions: whether the text continues with another operation of a block, and what is left of the text then.
use Rattle.std.specs.Prelude.{◌≡◌, Bool, true, false, cond}
use Rattle.irtext_base.specs.Text.{Text, begins, after_space}
use Rattle.irtext_base.specs.Reading.{the}
use Rattle.irtext_base.specs.Stream.{StreamView}
use Rattle.irtext_grammar.specs.Promises.Section.{Moves}
use Rattle.irtext_grammar.specs.Readers.Parts.{without_first}
use Rattle.irtext_grammar.specs.Reached.{begins_operation}

-- another operation comes next: the first of its block, or one after `;`
abbrev pub operation_follows : Bool → Text → Bool
operation_follows true text = begins_operation (after_space text)
operation_follows false text = begins (the 59) (after_space text)

-- the text of that operation, or what comes instead of it
abbrev pub text_there : Bool → Text → Text
text_there true text = after_space text
text_there false text = cond (begins (the 59) (after_space text)) (after_space (without_first (after_space text))) (after_space text)

-- some characters of the stream were consumed, up to this text
pub record PassesTo (text : Text) (old new : StreamView) : Type 0 where
  pub moves : Moves old new
  pub rest : new.rest ≡ text
