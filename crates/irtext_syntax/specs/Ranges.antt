-- Ranges of numbers, and values that are made of decimal digits.
use Rattle.std.specs.Prelude.{◌≡◌, ◌^◌, ℕ, Bool, true, cond, ◌&&◌, nat_le, nat_lt, Option}
use Rattle.std.specs.Char.{is_ascii_digit}
use Rattle.irtext_base.specs.Text.{Text, begins, front, after}
use Rattle.irtext_base.specs.Stream.{first_of}
use Rattle.irtext_base.specs.Faults.{ADigit, Unexpected}
use Rattle.irtext_base.specs.Answers.{Outcome, Missing}
use Rattle.irtext_tokens.specs.Integers.{ranged}
use Rattle.irtext_tokens.specs.Tokens.{value_of}

-- the least and the greatest number of a range of numbers of 64 bits
pub record Bounds : Type 0 where
  pub low : ℕ
  pub high : ℕ
  pub fits : nat_lt high (2 ^ 64) ≡ true

-- the range from the first number to the second
abbrev pub from_to : (low high : ℕ) → nat_lt high (2 ^ 64) ≡ true → Bounds
from_to low high fits = record { low = low; high = high; fits = fits }

-- from the first to the second, both included
abbrev pub is_between : ℕ → ℕ → ℕ → Bool
is_between low high n = nat_le low n && nat_le n high

-- the value that is made of a number in decimal digits, as many as come next; a number of which none is made is the error `NumberRange` at
-- its beginning
abbrev pub digits_at : {X : Type 0} → (Option ℕ → Option X) → Text → Outcome X
digits_at make text = cond (begins is_ascii_digit text) (ranged (front is_ascii_digit text) (after is_ascii_digit text) (make (value_of (front is_ascii_digit text)))) (Missing (Unexpected (first_of text) ADigit))
