-- The texts of two families as one.
use Rattle.std.specs.Prelude.{cond, List}
use Rattle.irtext_base.specs.Text.{Text, front, in_dotted}
use Rattle.irtext_base.specs.Answers.{Outcome, mapped}
use Rattle.irtext_base.specs.Families.{is_one_of}
use Rattle.irtext_tokens.specs.declared.either.Either.{Either}
use Rattle.irtext_tokens.specs.declared.either.Either.TheVariants.{Left, Right}

-- a value of the second family
abbrev pub right : {L R W : Type 0} → R → Either L R W
right y = Right y (record {})

-- where a word of the first family leads, what the text is to it, and else what it is to the second
abbrev pub either_at : {L R W : Type 0} → List Text → (Text → Outcome L) → (Text → Outcome R) → Text → Outcome (Either L R W)
either_at words first second text = cond (is_one_of words (front in_dotted text)) (mapped Left (first text)) (mapped right (second text))

-- what is said of the value, by the family that it is of
abbrev pub either_of : {L R W X : Type 0} → (L → X) → (R → X) → Either L R W → X
either_of first second (Left x) = first x
either_of first second (Right y p) = second y
