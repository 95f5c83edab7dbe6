-- Between functions: what was parsed of the canonical form.
use Rattle.std.specs.Prelude.{Bool, List, [], ◌∷◌, ◌++◌, codes, Result}
use Rattle.irtext_base.specs.Format as format
use Rattle.irtext_base.specs.Text.{Text}
use Rattle.irtext_base.specs.Stream.{StreamView}
use Rattle.irtext_base.specs.Answers.{Outcome}
use Rattle.irtext_base.specs.Locations.{AttrView}
use Rattle.irtext_base.specs.declared.parsable.fault.ParseFault.{ParseFault}
use Rattle.irtext_grammar.specs.declared.parsed.Setting.{Setting}
use Rattle.irtext_grammar.specs.Heads.{Step, flat, types, canonical_steps, front_steps}
use Rattle.irtext_grammar.specs.Resume.{front_at}
use Rattle.irtext_grammar.specs.declared.parsed.ReadPiece.{ReadPiece}
use Rattle.irtext_grammar.specs.declared.parsed.NameKind.{NameKind}
use Rattle.irtext_parse_pieces.specs.Kinds.{names_directive}
use Rattle.irtext_grammar.specs.Parsed.{IsPart, Each}
use Rattle.irtext_parse_pieces.specs.Named.{whole, MustMean}

-- the step of a fixed text
abbrev pub word_step : Text → Step
word_step w = flat (format.word w)

-- the steps of the names of this kind between two fixed texts
abbrev pub name_steps : Text → NameKind → Text → List Step
name_steps opening kind closing = word_step opening ∷ flat (names_directive kind) ∷ word_step closing ∷ []

-- the step of the dictionary
abbrev pub dictionary_steps : List Step
dictionary_steps = flat format.dictionary ∷ []

-- the steps of types in parentheses
abbrev pub type_steps : List Step
type_steps = word_step (codes "(") ∷ types ∷ word_step (codes ")") ∷ []

-- the steps of the types of the operands and of the results
abbrev pub signature_steps : List Step
signature_steps = word_step (codes ":") ∷ word_step (codes "<") ∷ type_steps ++ word_step (codes "->") ∷ type_steps ++ word_step (codes ">") ∷ []

-- the steps of the canonical form before its regions
abbrev pub canonical_front : List Step
canonical_front = front_steps canonical_steps

module _ {S T A Y : Type 0} (view : S → StreamView) (at : S → StreamView → S) where
  -- the result is what the steps parse, or their fault; `see` gives the pieces of a value
  abbrev pub MustSteps : List Text → (Text → Outcome T) → (Text → Outcome (AttrView A)) → Setting → List Step → (Y → List (ReadPiece T A)) → S → Result Y (ParseFault A) → S → Type 0
  MustSteps names types_at attr setting steps see old result new = MustMean view at (λ y. Each (IsPart names (whole (view old))) (see y)) (front_at types_at attr setting steps []) old result new
