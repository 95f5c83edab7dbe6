-- The texts of lists of parts in brackets.
use Rattle.std.specs.Prelude.{◌≡◌, ℕ, true, false, List, [], ◌∷◌, ◌++◌, codes, refl}
use Rattle.irtext_base.specs.Text.{Text, begins, after_space}
use Rattle.irtext_base.specs.Reading.{the}
use Rattle.irtext_tokens.specs.Infix.{Reader, ◌▷◌, ◌◁◌}
use Rattle.irtext_tokens.specs.ListOutcomes.{separated_at}
use Rattle.irtext_syntax.specs.FixedTexts.{open_at, close_at}
use Rattle.irtext_syntax.specs.PartLaws.{is_closer}

-- a separator ends each item, and the closing bracket does not begin with it
pub record SeparatorLaw (separator : ℕ) (closer_printed : Text) : Type 0 where
  pub ending : is_closer separator ≡ true
  pub apart : (rest : Text) → begins (the separator) (after_space (closer_printed ++ rest)) ≡ false

module _ {X : Type 0} (separator : ℕ) (written : X → Text) where
  -- the separator, a space and the item, for each item
  abbrev pub tail_text : List X → Text
  tail_text [] = []
  tail_text (x ∷ xs) = separator ∷ 32 ∷ (written x ++ tail_text xs)

  -- the items, with the separator and a space between two
  abbrev pub joined_text : List X → Text
  joined_text [] = []
  joined_text (x ∷ xs) = written x ++ tail_text xs

-- the items in brackets
abbrev pub list_text : {X : Type 0} → Text → ℕ → (X → Text) → Text → List X → Text
list_text opener_printed separator written closer_printed xs = opener_printed ++ (joined_text separator written xs ++ closer_printed)

-- items, and the closing bracket
abbrev pub items_at : {X : Type 0} → ℕ → Reader X → Text → Reader (List X)
items_at separator item closer = separated_at separator item ◁ close_at closer

-- the opening bracket, items and the closing bracket, with optional white space before and after each item
abbrev pub list_at : {X : Type 0} → Text → ℕ → Reader X → Text → Reader (List X)
list_at opener separator item closer = open_at opener ▷ items_at separator item closer

-- a comma separates the items of a list in each of the brackets that are ready to be used
pub comma_in_angle : SeparatorLaw 44 (codes ">")
comma_in_angle = record { ending = refl; apart = λ rest. refl }

pub comma_in_round : SeparatorLaw 44 (codes ")")
comma_in_round = record { ending = refl; apart = λ rest. refl }

pub comma_in_square : SeparatorLaw 44 (codes "]")
comma_in_square = record { ending = refl; apart = λ rest. refl }

pub comma_in_curly : SeparatorLaw 44 (codes " }")
comma_in_curly = record { ending = refl; apart = λ rest. refl }
