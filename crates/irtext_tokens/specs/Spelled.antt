-- How far the parser of a fixed text has come.
use Rattle.std.specs.Prelude.{◌≡◌, ℕ, Bool, true, false, Option, Some, None, List, [], ◌∷◌}
use Rattle.std.specs.Str.{encode_utf8_all}
use Rattle.irtext_base.specs.Text.{Text, begins}
use Rattle.irtext_base.specs.Reading.{the}
use Rattle.irtext_base.specs.Stream.{StreamView}
use Rattle.irtext_base.specs.Answers.{Outcome, Takes, Gives, Passes, Commits, prefixed}
use Rattle.irtext_base.specs.Faults.{Fault}
use Rattle.irtext_base.specs.declared.parsable.fault.ParseFault.{ParseFault}
use Rattle.irtext_tokens.specs.Tokens.{spelled_at, text_at}

-- the outcome of the rest of the word, as it is from before the consumed characters
abbrev pub begun_by : {X : Type 0} → Bool → Text → Outcome X → Outcome X
begun_by false taken o = o
begun_by true taken o = prefixed taken o

module _ {S : Type 0} (view : S → StreamView) (at : S → StreamView → S) where
  -- the consumed characters are those of the word that precede `left`
  pub record Spelling (word : Text) (old now : S) (begun : Bool) (taken left : Text) : Type 0 where
    pub takes : Takes view at taken (view now).rest old now
    pub untaken : begun ≡ false → taken ≡ []
    pub so_far : text_at word (view old).rest ≡ begun_by begun taken (spelled_at word left (view now).rest)

  -- a prefix of the word was consumed, and its next character does not come next
  pub record Differs (word : Text) (old : S) (begun : Bool) (now : S) : Type 0 where
    pub taken : Text
    pub next : ℕ
    pub left : Text
    pub spelling : Spelling word old now begun taken (next ∷ left)
    pub other : begins (the next) (view now).rest ≡ false

  -- The word with these bytes was parsed; or its next character does not come next, and the flag says whether one was consumed before.
  abbrev pub Spells : List ℕ → S → Option Bool → S → Type 0
  Spells bytes old None new = (word : Text) → encode_utf8_all word ≡ bytes → Gives view at (text_at word (view old).rest) old tt new
  Spells bytes old (Some begun) new = (word : Text) → encode_utf8_all word ≡ bytes → Differs word old begun new

  -- the error with this cause at the current position: committed if something was consumed
  abbrev pub Misses : {A : Type 0} → Bool → Fault → S → ParseFault A → S → Type 0
  Misses true cause old fault new = Commits view at cause [] old fault new
  Misses false cause old fault new = Passes view at cause old fault new
