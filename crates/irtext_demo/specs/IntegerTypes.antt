-- For callers: the texts of integer types.
use Rattle.std.specs.Prelude.{◌≡◌, ℕ, Bool, not, cond, Option, Some, None, MatchOption, ◌++◌, codes, decimal}
use Rattle.std.specs.Char.{is_ascii_digit}
use Rattle.irtext_base.specs.Text.{Text, begins, front, after}
use Rattle.irtext_base.specs.Reading.{the}
use Rattle.irtext_base.specs.Stream.{StreamView, first_of}
use Rattle.irtext_base.specs.Faults.{AType, ADigit, Unexpected}
use Rattle.irtext_base.specs.Answers.{Outcome, Missing, Gives, unless_failed}
use Rattle.irtext_tokens.specs.Tokens.{word, value_of}
use Rattle.irtext_tokens.specs.Integers.{ranged}
use Rattle.irtext_tokens.specs.Infix.{either, ◌▶◌, ◌⇒◌}
use Rattle.irtext_syntax.specs.Ranges.{digits_at}
use Rattle.irtext_syntax.specs.Shapes.{Shape}
use Rattle.irtext_demo.specs.WidthOf.{width_of}
use Rattle.irtext_demo.specs.declared.width.Width.{Width}
use Rattle.irtext_demo.specs.declared.integer_type.Signedness.{Signedness}
use Rattle.irtext_demo.specs.declared.integer_type.Signedness.TheVariants.{Signed, Unsigned, Signless}
use Rattle.irtext_demo.specs.declared.integer_type.IntegerType.{IntegerType}
use Rattle.irtext_demo.specs.contracts.integer_type.IntegerTypePartialEq.TheImpl as test

-- the text of a sign
abbrev pub signedness_text : Signedness → Text
signedness_text Signed = codes "si"
signedness_text Unsigned = codes "ui"
signedness_text Signless = codes "i"

-- the text that is printed: the sign, and the width without leading zeros
abbrev pub integer_type_text : IntegerType → Text
integer_type_text t = signedness_text t.kind ++ decimal t.width.bits

-- a sign
abbrev pub signedness_at : Text → Outcome Signedness
signedness_at =
    either (begins (the 115)) (word (codes "si") ⇒ λ _. Signed)
    (either (begins (the 117)) (word (codes "ui") ⇒ λ _. Unsigned)
    (either (begins (the 105)) (word (codes "i") ⇒ λ _. Signless)
    (λ text. Missing (Unexpected (first_of text) AType))))

-- the width with this number of bits, if there is one; `None` is a number that does not fit 64 bits
abbrev pub width_if : Option ℕ → Option Width
width_if None = None
width_if (Some n) = width_of n

-- the decimal digits of a width, as many as come next
abbrev pub width_at : Text → Outcome Width
width_at = digits_at width_if

-- the integer type with this sign and this width
abbrev pub integer_type_with : Signedness → Width → IntegerType
integer_type_with kind width = record { kind = kind; width = width }

-- a sign and a width, without white space between them
abbrev pub integer_type_at : Text → Outcome IntegerType
integer_type_at = signedness_at ▶ λ kind. width_at ⇒ integer_type_with kind

-- no digit comes next
abbrev pub integer_type_ends : Text → Bool
integer_type_ends rest = not (begins is_ascii_digit rest)

-- as a part of other texts
abbrev pub integer_type : Shape IntegerType
integer_type = record { reading = integer_type_at; written = integer_type_text; ends = integer_type_ends; test = test.ghosts.eq }

-- what is parsed so comes next, and was consumed; or it does not come next, and the stream is unchanged
abbrev pub TakesIfThere : {X : Type 0} → (Text → Outcome X) → StreamView → Option X → StreamView → Type 0
TakesIfThere outcome old result new = MatchOption result (new ≡ old) (λ x. Gives (λ s. s) (λ s v. v) (unless_failed old.failed (outcome old.rest)) old x new)
