-- The texts of parts that may be left out.
use Rattle.std.specs.Prelude.{Bool, ◌&&◌, Option, Some, None, []}
use Rattle.irtext_base.specs.Text.{Text, begins, after_space}
use Rattle.irtext_base.specs.Answers.{Outcome, Read, Missing, Bad}
use Rattle.irtext_tokens.specs.Infix.{Reader}
use Rattle.irtext_syntax.specs.PartLaws.{is_closer}

-- the value, or nothing if none begins
abbrev pub or_none : {X : Type 0} → Outcome X → Text → Outcome (Option X)
or_none (Read x taken rest) text = Read (Some x) taken rest
or_none (Missing cause) text = Read None [] text
or_none (Bad cause upto) text = Bad cause upto

-- a part that may be left out
abbrev pub maybe_at : {X : Type 0} → Reader X → Reader (Option X)
maybe_at reading text = or_none (reading text) text

-- the text that is printed for it
abbrev pub maybe_text : {X : Type 0} → (X → Text) → Option X → Text
maybe_text written (Some x) = written x
maybe_text written None = []

-- the part can end before this text, and after any white space a closing character comes
abbrev pub maybe_ends : (Text → Bool) → Text → Bool
maybe_ends ends text = ends text && begins is_closer (after_space text)
