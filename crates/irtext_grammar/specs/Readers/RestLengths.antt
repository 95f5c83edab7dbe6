-- For callers: how much of a text a parser leaves, which bounds the nesting of a location.
use Rattle.std.specs.Prelude.{◌≡◌, ◌≤◌, ℕ, length}
use Rattle.irtext_base.specs.Text.{Text}
use Rattle.irtext_base.specs.Answers.{Outcome, Read}

-- if something is parsed, at most this many characters are left
pub record Leaves {X : Type 0} (bound : ℕ) (o : Outcome X) : Type 0 where
  pub by : (x : X) (taken rest : Text) → o ≡ Read x taken rest → length rest ≤ bound

-- the parser leaves no more characters than the text has
pub record LeavesNoMore {X : Type 0} (at : Text → Outcome X) : Type 0 where
  pub by : (text : Text) → Leaves (length text) (at text)
