-- Between functions: what the parsed arguments of blocks represent.
use Rattle.std.specs.Prelude.{◌≡◌, ℕ, false, List, [], ◌∷◌, length, Result}
use Rattle.irtext_base.specs.Text.{Text}
use Rattle.irtext_base.specs.Stream.{StreamView}
use Rattle.irtext_base.specs.Answers.{Outcome}
use Rattle.irtext_base.specs.declared.parsable.fault.ParseFault.{ParseFault}
use Rattle.irtext_tokens.specs.ListOutcomes.{items_after}
use Rattle.irtext_grammar.specs.Grammar.Tree.{Name}
use Rattle.irtext_grammar.specs.declared.parsed.ReadName.{ReadName}
use Rattle.irtext_parse_pieces.specs.Named.{whole, MustMean}
use Rattle.irtext_grammar.specs.Parsed.{Represents, Each}

-- the argument represents one of the text: its name does, and its type is the same
abbrev pub IsArgument : {T : Type 0} → List Text → Text → ReadName × T → Name ℕ × T → Type 0
IsArgument names text read argument = Represents names text read.0 argument.0 × (read.1 ≡ argument.1)

module _ {S T A : Type 0} (view : S → StreamView) (at : S → StreamView → S) where
  -- the result is the list of arguments that comes next, or its fault
  abbrev pub MustArguments : List Text → (Text → Outcome (List (Name ℕ × T))) → S → Result (List (ReadName × T)) (ParseFault A) → S → Type 0
  MustArguments names outcome old result new = MustMean view at (Each (IsArgument names (whole (view old)))) outcome old result new

  -- given a first argument, the result is the list of arguments that continues it, or its fault
  abbrev pub ArgumentsAfter : List Text → List Text → (Text → Outcome (Name ℕ × T)) → ReadName × T → S → Result (List (ReadName × T)) (ParseFault A) → S → Type 0
  ArgumentsAfter before names item first old result new = (argument : Name ℕ × T) → IsArgument before (whole (view old)) first argument → (view old).failed ≡ false
      → MustArguments names (λ t. items_after 44 item (length t) (argument ∷ []) t) old result new
