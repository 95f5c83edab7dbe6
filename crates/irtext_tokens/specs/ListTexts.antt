-- The outcomes that a list may have on a text, if a relation gives the outcomes of the item.
use Rattle.std.specs.Prelude.{◌≡◌, ℕ, false, List, [], ◌∷◌, ◌++◌}
use Rattle.irtext_base.specs.Text.{Text, begins, after_space}
use Rattle.irtext_base.specs.Reading.{the}
use Rattle.irtext_base.specs.Faults.{Fault}
use Rattle.irtext_base.specs.Answers.{Outcome, Read, Missing, Bad}
use Rattle.irtext_tokens.specs.Lists.{spaces}

-- the outcome of a list with one more item before the others
abbrev pub item_before : {X : Type 0} → X → Text → Outcome (List X) → Outcome (List X)
item_before x taken (Read xs more rest) = Read (x ∷ xs) (taken ++ more) rest
item_before x taken (Missing cause) = Missing cause
item_before x taken (Bad cause upto) = Bad cause (taken ++ upto)

module _ {X : Type 0} (R : Text → Outcome X → Type 0) where
  -- Separators and items, as long as a separator comes next, with white space after each. An item is required after each separator.
  pub data TailAt (sep : ℕ) : Text → Outcome (List X) → Type 0 where
    ended : (text : Text) → begins (the sep) text ≡ false → TailAt sep text (Read [] [] text)
    none_follows : (text left : Text) (cause : Fault) → text ≡ sep ∷ left → R (after_space left) (Missing cause) → TailAt sep text (Bad cause (sep ∷ spaces left))
    bad_after : (text left : Text) (cause : Fault) (upto : Text) → text ≡ sep ∷ left → R (after_space left) (Bad cause upto) → TailAt sep text (Bad cause ((sep ∷ spaces left) ++ upto))
    one_after : (text left : Text) (x : X) (taken rest : Text) (o q : Outcome (List X)) → text ≡ sep ∷ left → R (after_space left) (Read x taken rest) → TailAt sep (after_space rest) o
        → q ≡ item_before x (((sep ∷ spaces left) ++ taken) ++ spaces rest) o → TailAt sep text q

  -- Items with a separator between them, and white space after each item and each separator.
  pub data SeparatedAt (sep : ℕ) : Text → Outcome (List X) → Type 0 where
    none_first : (text : Text) (cause : Fault) → R text (Missing cause) → SeparatedAt sep text (Read [] [] text)
    bad_first : (text : Text) (cause : Fault) (upto : Text) → R text (Bad cause upto) → SeparatedAt sep text (Bad cause upto)
    one_first : (text : Text) (x : X) (taken rest : Text) (o q : Outcome (List X)) → R text (Read x taken rest) → TailAt sep (after_space rest) o → q ≡ item_before x (taken ++ spaces rest) o → SeparatedAt sep text q
