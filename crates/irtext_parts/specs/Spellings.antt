-- Texts of a class of characters that pass a test, and are kept as they are spelled.
use Rattle.std.specs.Prelude.{◌≡◌, ℕ, ◌<◌, Bool, true, false, not, ◌&&◌}
use Rattle.std.specs.List.{list_all}
use Rattle.irtext_base.specs.Text.{Text, begins}
use Rattle.irtext_base.specs.Faults.{Demand}
use Rattle.irtext_base.specs.Own.{can_follow}

-- how texts of a kind are spelled: the characters that they begin with, those that they consist of, and the test that they pass; what is
-- expected where none begins, and what an error says before characters that are no such text
pub record Rules : Type 0 where
  pub first : ℕ → Bool
  pub later : ℕ → Bool
  pub test : Text → Bool
  pub demand : Demand
  pub refusal : Text

-- a text is spelled by these rules
abbrev pub is_spelled : Rules → Text → Bool
is_spelled rules text = begins rules.first text && (list_all rules.later text && rules.test text)

-- the law of rules: a first character is one of the others, and none of them is outside of ASCII or can follow the text of a type or an
-- attribute
pub record RulesLaw (rules : Rules) : Type 0 where
  pub within : (c : ℕ) → rules.first c ≡ true → rules.later c ≡ true
  pub small : (c : ℕ) → rules.later c ≡ true → c < 128
  pub apart : (c : ℕ) → can_follow c ≡ true → rules.later c ≡ false

-- none of the characters comes next
abbrev pub ends_spelled : Rules → Text → Bool
ends_spelled rules text = not (begins rules.later text)
