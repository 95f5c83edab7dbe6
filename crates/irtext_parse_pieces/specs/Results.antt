-- Between functions: the look for the names of an operation's results.
use Rattle.std.specs.Prelude.{◌≡◌, ℕ, Bool, true, false, List, [], ◌∷◌, length, Option, Some, None, Result, Ok, Err}
use Rattle.irtext_base.specs.Text.{Text}
use Rattle.irtext_base.specs.Stream.{StreamView}
use Rattle.irtext_base.specs.Answers.{Outcome, Read, Missing, Bad, SameStream, RunsOut}
use Rattle.irtext_base.specs.declared.parsable.fault.ParseFault.{ParseFault}
use Rattle.irtext_tokens.specs.ListOutcomes.{items_after}
use Rattle.irtext_tokens.specs.Infix.{Reader}
use Rattle.irtext_grammar.specs.Grammar.Tree.{Name}
use Rattle.irtext_grammar.specs.Heads.{name_at, results_at, named}
use Rattle.irtext_grammar.specs.declared.parsed.ReadName.{ReadName}
use Rattle.irtext_parse_pieces.specs.Named.{whole, MustNames}
use Rattle.irtext_grammar.specs.Parsed.{Represents}

-- whether the outcome is a value
abbrev pub is_read : {X : Type 0} → Outcome X → Bool
is_read (Read x taken rest) = true
is_read (Missing cause) = false
is_read (Bad cause upto) = false

-- the names of an operation's results if they come next; otherwise none
abbrev pub results_if_at : Reader (List (Name ℕ))
results_if_at text = named (results_at text) text

module _ {S A : Type 0} (view : S → StreamView) (at : S → StreamView → S) where
  -- The names that come next were found; or there are none, and the position of the stream is unspecified; or an allocation failed.
  abbrev pub Looks : List Text → (Text → Outcome (List (Name ℕ))) → S → Result (Option (List ReadName)) (ParseFault A) → S → Type 0
  Looks names outcome old (Ok (Some found)) new = MustNames {A = A} view at names outcome old (Ok found) new
  Looks names outcome old (Ok None) new = (is_read (outcome (view old).rest) ≡ false) × SameStream view at false old new
  Looks names outcome old (Err fault) new = RunsOut view at old fault new

  -- the same after a first name
  abbrev pub LooksAfter : List Text → List Text → ReadName → S → Result (Option (List ReadName)) (ParseFault A) → S → Type 0
  LooksAfter before names first old result new = (name : Name ℕ) → Represents before (whole (view old)) first name → (view old).failed ≡ false
      → Looks names (λ t. items_after 44 name_at (length t) (name ∷ []) t) old result new
