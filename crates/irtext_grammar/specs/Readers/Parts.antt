-- For callers: a text without its first character, and what follows a lead. A lead is what precedes the id of an operation: white space
-- and the names of results. It may be empty.
use Rattle.std.specs.Prelude.{Bool, true, false, [], ◌∷◌}
use Rattle.irtext_base.specs.Text.{Text}
use Rattle.irtext_base.specs.Answers.{Outcome, prefixed}
pub use Rattle.irtext_tokens.specs.Demanded.{index_at, symbol_at}

-- a text without its first character
abbrev pub without_first : Text → Text
without_first [] = []
without_first (c ∷ text) = text

-- the outcome of what follows a lead, seen from before it: a missing thing is bad if the lead is not empty
abbrev pub after_lead : {X : Type 0} → Text → Outcome X → Outcome X
after_lead [] o = o
after_lead (c ∷ lead) o = prefixed (c ∷ lead) o

-- whether the lead is not empty
abbrev pub is_led : Text → Bool
is_led [] = false
is_led (c ∷ lead) = true
