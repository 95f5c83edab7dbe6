-- For callers: dotted words, which types and attributes begin with.
use Rattle.std.specs.Prelude.{ℕ, Bool, cond, Option, Some, None, [], ◌++◌}
use Rattle.irtext_base.specs.Text.{Text, begins, front, after, begins_word}
use Rattle.irtext_tokens.specs.Tokens.{has}
use Rattle.irtext_stream.specs.declared.class.Class.TheVariants.{Dotted}
use Rattle.irtext_base.specs.Stream.{first_of}
use Rattle.irtext_base.specs.Faults.{Demand, Unexpected, OwnText}
use Rattle.irtext_base.specs.Answers.{Outcome, Read, Missing, Bad}

-- a letter, a digit, `_` or `.`
abbrev pub in_dotted : ℕ → Bool
in_dotted = has Dotted

-- the value of a word; an unknown word is an error with a text that ends in the word
abbrev pub chosen : {X : Type 0} → Text → Text → Text → Option X → Outcome X
chosen refusal found rest (Some x) = Read x found rest
chosen refusal found rest None = Bad (OwnText (refusal ++ found)) []

-- a dotted word, as long as possible, and its value
abbrev pub dotted_at : {X : Type 0} → (Text → Option X) → Text → Demand → Text → Outcome X
dotted_at word refusal demand text = cond (begins begins_word text) (chosen refusal (front in_dotted text) (after in_dotted text) (word (front in_dotted text))) (Missing (Unexpected (first_of text) demand))
