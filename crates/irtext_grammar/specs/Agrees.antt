-- For callers: how the parsers of a section and the grammar agree on one text.
use Rattle.std.specs.Prelude.{◌≡◌, ◌⊎◌, ℕ, List, [], ◌∷◌, ◌++◌, length, Some, None}
use Rattle.irtext_base.specs.Text.{Text}
use Rattle.irtext_base.specs.Format.{same_text}
use Rattle.irtext_base.specs.Answers.{Outcome, Read, Bad}
use Rattle.irtext_grammar.specs.Grammar.Section.{Entry}
use Rattle.irtext_grammar.specs.Names.Acts.{Rule, section_acts}
use Rattle.irtext_grammar.specs.Names.Scopes.{Scopes, failures}
use Rattle.irtext_grammar.specs.Names.Script.{Failure, does_all, done}
use Rattle.irtext_grammar.specs.Entries.{fault_for}

-- no scope is open, these indices are marked, and these have entries
abbrev pub after_root : List ℕ → List ℕ → Scopes Text
after_root marks entries = record { values = None; labels = None; marks = marks; entries = entries }

-- the failures of a section after a root with these marks, by these rules
abbrev pub refused : {A X : Type 0} → List ℕ → (ℕ → Rule A) → List (Entry ℕ A X) → List (Failure Text ℕ)
refused marks rules es = failures same_text (after_root marks []) (does_all (section_acts rules es) done)

-- the text is bad at the first of these failures, with the failure's cause
pub record StopsAt {X : Type 0} (text : Text) (o : Outcome X) (fs : List (Failure Text ℕ)) : Type 0 where
  pub first : Failure Text ℕ
  pub others : List (Failure Text ℕ)
  pub is : fs ≡ first ∷ others
  pub upto : Text
  pub stop : Text
  pub splits : upto ++ stop ≡ text
  pub at : first.at ≡ Some (length stop)
  pub bad : o ≡ Bad (fault_for first.cause) upto

-- the text parses as this with this rest, and there is no failure; or it is bad at the first failure
abbrev pub ReadOrStops : {X : Type 0} → Text → Outcome X → X → Text → List (Failure Text ℕ) → Type 0
ReadOrStops text o x rest fs = ((fs ≡ []) × ((taken : Text) × (o ≡ Read x taken rest))) ⊎ StopsAt text o fs
