-- The outcome of a list with a separator, if a function gives the outcome of the item.
use Rattle.std.specs.Prelude.{ℕ, zero, suc, cond, List, [], ◌∷◌, ◌++◌, length}
use Rattle.irtext_base.specs.Text.{Text, begins}
use Rattle.irtext_base.specs.Reading.{the}
use Rattle.irtext_base.specs.Answers.{Outcome, Read, Missing, Bad}
use Rattle.irtext_tokens.specs.Infix.{Reader, ◌▷◌, ◌▶◌, ◌⇒◌}
use Rattle.irtext_tokens.specs.Tokens.{space_at, word}

-- the list, or no items if the first is missing
abbrev pub or_empty : {X : Type 0} → Outcome (List X) → Text → Outcome (List X)
or_empty (Read xs taken rest) text = Read xs taken rest
or_empty (Missing cause) text = Read [] [] text
or_empty (Bad cause upto) text = Bad cause upto

module _ {X : Type 0} (separator : ℕ) (item : Text → Outcome X) where
  -- the items found, and one more item with the white space after it
  abbrev pub item_after : List X → Reader (List X)
  item_after found = item ▶ λ x. space_at ⇒ λ _. found ++ (x ∷ [])

  -- the items found, and up to n items more, each after a separator and white space, as long as a separator comes next
  abbrev pub items_after : ℕ → List X → Text → Outcome (List X)
  items_after zero found text = Read found [] text
  items_after (suc n) found text = cond (begins (the separator) text)
      ((word (separator ∷ []) ▷ space_at ▷ item_after found ▶ λ more. items_after n more) text)
      (Read found [] text)

  -- items with a separator between them, and white space after each item and each separator, as many as come next
  abbrev pub separated_at : Text → Outcome (List X)
  separated_at text = or_empty ((item_after [] ▶ λ found t. items_after (length t) found t) text) text
