-- Numbers of every integer type, as parts of a text.
use Rattle.std.specs.Prelude.{ℕ, suc, ℤ, pos, negsuc, Bool, true, false, Option, not, nat_lt}
use Rattle.std.specs.Char.{is_ascii_digit}
use Rattle.irtext_base.specs.Text.{Text, begins}
use Rattle.irtext_base.specs.Answers.{Outcome, Read, Missing, Bad}
use Rattle.irtext_tokens.specs.Integers.{ranged}

-- the magnitude of an integer is less than the bound for its sign
abbrev pub fits : (Bool → ℕ) → ℤ → Bool
fits below (pos n) = nat_lt n (below false)
fits below (negsuc n) = nat_lt (suc n) (below true)

-- an integer as a natural number; 0 for a negative one
abbrev pub natural : ℤ → ℕ
natural (pos n) = n
natural (negsuc n) = 0

-- a value made of the one that was parsed, or, if there is none, the error `NumberRange` at the beginning of its text
abbrev pub narrowed : {X Y : Type 0} → (X → Option Y) → Outcome X → Outcome Y
narrowed make (Read x taken rest) = ranged taken rest (make x)
narrowed make (Missing cause) = Missing cause
narrowed make (Bad cause upto) = Bad cause upto

-- no digit comes next
abbrev pub ends_digits : Text → Bool
ends_digits text = not (begins is_ascii_digit text)
