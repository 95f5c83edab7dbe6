-- Between functions: the parsers of numbers, lines and columns in their usual form.
use Rattle.std.specs.Prelude.{◌≡◌, ℕ, ℤ, true, false, Option, Some, None, codes, FitsSigned}
use Rattle.std.specs.Int.{w32}
use Rattle.std.specs.Char.{is_ascii_digit, is_whitespace}
use Rattle.irtext_base.specs.Text.{Text, begins, front, after}
use Rattle.irtext_base.specs.Stream.{StreamView}
use Rattle.irtext_base.specs.Answers.{Read, Takes, Gives, SameStream}
use Rattle.irtext_tokens.specs.Infix.{Reader, ◌▷◌}
use Rattle.irtext_stream.specs.Stream.{Comes}
use Rattle.irtext_tokens.specs.Tokens.{value_of, integer_at}
use Rattle.irtext_grammar.specs.Readers.Positions.{spaced_at, labelled_at, position_at}
use Rattle.irtext_grammar.specs.Readers.Streams.{itself, replaced}
use Rattle.irtext_stream.specs.declared.position.SourcePosition.{SourcePosition}

-- digits come next and were consumed, and their number fits 64 bits
pub record TakesDigits (old : StreamView) (n : ℕ) (new : StreamView) : Type 0 where
  pub some : begins is_ascii_digit old.rest ≡ true
  pub value : value_of (front is_ascii_digit old.rest) ≡ Some n
  pub takes : Takes itself replaced (front is_ascii_digit old.rest) (after is_ascii_digit old.rest) old new

-- digits come next and were consumed, and they are the whole number that is parsed
pub record TakesNumber {X : Type 0} (number_at : Reader X) (old : StreamView) (x : X) (new : StreamView) : Type 0 where
  pub some : begins is_ascii_digit old.rest ≡ true
  pub is : number_at old.rest ≡ Read x (front is_ascii_digit old.rest) (after is_ascii_digit old.rest)
  pub takes : Takes itself replaced (front is_ascii_digit old.rest) (after is_ascii_digit old.rest) old new

-- This was found; or nothing was, and the position of the stream is unspecified.
abbrev pub Looks : {X : Type 0} → (X → Type 0) → StreamView → Option X → StreamView → Type 0
Looks Found old (Some x) new = Found x
Looks Found old None new = SameStream itself replaced old.failed old new

-- the same, but the stream is unchanged if nothing was found
abbrev pub Sees : {X : Type 0} → (X → Type 0) → StreamView → Option X → StreamView → Type 0
Sees Found old (Some x) new = Found x
Sees Found old None new = new ≡ old

-- this was parsed
abbrev pub Gets : {X : Type 0} → Reader X → StreamView → StreamView → X → Type 0
Gets outcome old new x = Gives itself replaced (outcome old.rest) old x new

-- the stream had not failed, and this was parsed
abbrev pub Finds : {X : Type 0} → Reader X → StreamView → StreamView → X → Type 0
Finds outcome old new x = (old.failed ≡ false) × Gets outcome old new x

module _ (before : Text) (old new : StreamView) where
  -- a text was consumed, and the digits right after it
  pub record DigitsAfter (n : ℕ) : Type 0 where
    pub mid : StreamView
    pub comes : Comes before old (λ v. mid ≡ v)
    pub digits : TakesDigits mid n new

  -- a text was consumed, and a number right after it that fits 32 bits with a sign
  pub record NumberAfter (z : ℤ) : Type 0 where
    pub mid : StreamView
    pub comes : Comes before old (λ v. mid ≡ v)
    pub number : TakesNumber integer_at mid z new
    pub fits : FitsSigned w32 z

  -- the stream had not failed, and a text was consumed, and the white space after it
  pub record SpaceAfter : Type 0 where
    pub fine : old.failed ≡ false
    pub mid : StreamView
    pub comes : Comes before old (λ v. mid ≡ v)
    pub space : Takes itself replaced (front is_whitespace mid.rest) (after is_whitespace mid.rest) mid new

-- `:` and a line
abbrev pub line_at : Reader ℤ
line_at = spaced_at (codes ":") ▷ labelled_at (codes "line")

-- `,` and a column
abbrev pub column_at : Reader ℤ
column_at = spaced_at (codes ",") ▷ labelled_at (codes "column")

-- `:`, a line and a column
abbrev pub after_source_at : Reader SourcePosition
after_source_at = spaced_at (codes ":") ▷ position_at
