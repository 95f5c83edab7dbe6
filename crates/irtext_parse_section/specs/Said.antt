-- Between functions: what the parsed entries represent.
use Rattle.std.specs.Prelude.{◌≡◌, ℕ, Bool, true, false, List, [], ◌∷◌, length, Option, Some, None, Result, Ok, Err, Vec}
use Rattle.std.specs.Global.{Global}
use Rattle.std.specs.Map.{lookup}
use Rattle.irtext_base.specs.Text.{Text}
use Rattle.irtext_base.specs.Stream.{StreamView}
use Rattle.irtext_base.specs.Answers.{Outcome}
use Rattle.irtext_base.specs.Faults.{ReservedKey}
use Rattle.irtext_base.specs.declared.parsable.fault.ParseFault.{ParseFault}
use Rattle.irtext_stream.specs.declared.position.Place.{Place}
use Rattle.irtext_context.specs.declared.base.item.Item.{Item}
use Rattle.irtext_parse_state.specs.States.{same_index}
use Rattle.irtext_tokens.specs.AttrTexts.{attr_at}
use Rattle.irtext_tokens.specs.Infix.{Reader}
use Rattle.irtext_tokens.specs.ListOutcomes.{items_after}
use Rattle.irtext_grammar.specs.Contexts.Held.{attribute_of}
use Rattle.irtext_grammar.specs.Grammar.Tree.{Name}
use Rattle.irtext_grammar.specs.Grammar.Section as section
use Rattle.irtext_grammar.specs.Grammar.Section.{direct, reference}
use Rattle.irtext_grammar.specs.Names.Acts.{Rule}
use Rattle.irtext_grammar.specs.Entries.{pairs_at}
use Rattle.irtext_grammar.specs.Readers.Operations.{RefusesAt}
use Rattle.irtext_grammar.specs.Readers.Streams.{itself, replaced}
use Rattle.irtext_grammar.specs.Parsed.{IsKey, IsMark, Each}
use Rattle.irtext_parse_pieces.specs.Named.{whole, MustMean}
use Rattle.irtext_grammar.specs.declared.parsed.Key.{Key}
use Rattle.irtext_parse_locations.specs.declared.said.GivenAttr.{GivenAttr}
use Rattle.irtext_parse_locations.specs.declared.said.GivenAttr.TheVariants as given
use Rattle.irtext_parse_locations.specs.Rules.{rule_for, is_block, is_allowed_under}

-- what is allowed in the entry of an item, if there is one
abbrev pub rule_of_item : {A : Type 0} → Option Item → Rule A
rule_of_item None = rule_for false
rule_of_item (Some x) = rule_for (is_block x)

-- what is allowed in the entry of a mark, by the item that carries it
abbrev pub rules_of : {A : Type 0} → List (ℕ × Item) → ℕ → Rule A
rules_of marks i = rule_of_item (lookup (same_index i) marks)

-- what was parsed under a key represents what is given there
abbrev pub IsGiven : {A : Type 0} → Text → GivenAttr A → section.Item ℕ A → Type 0
IsGiven text (given.Direct a) (direct b) = attribute_of a ≡ b
IsGiven text (given.Direct a) (reference n) = ⊥
IsGiven text (given.Reference m) (direct b) = ⊥
IsGiven text (given.Reference m) (reference n) = IsMark text m n

-- a parsed pair represents this pair
abbrev pub IsPair : {A : Type 0} → Text → Key × GivenAttr A → Name ℕ × section.Item ℕ A → Type 0
IsPair text read pair = IsKey text read.0 pair.0 × IsGiven text read.1 pair.1

module _ {A : Type 0} where
  -- The result is the same if its attribute is allowed under its key; otherwise the key is reserved, and the fault is at this place.
  abbrev pub Allows : Rule A → Place → Result (Key × GivenAttr A) (ParseFault A) → StreamView → Result (Key × GivenAttr A) (ParseFault A) → StreamView → Type 0
  Allows rule place (Ok p) old (Ok q) new = (is_allowed_under rule p.0.name p.1 ≡ true) × (q ≡ p) × (new ≡ old)
  Allows rule place (Ok p) old (Err fault) new = (is_allowed_under rule p.0.name p.1 ≡ false) × RefusesAt itself replaced (ReservedKey p.0.name) place old fault new
  Allows rule place (Err first) old (Ok q) new = ⊥
  Allows rule place (Err first) old (Err fault) new = (fault ≡ first) × (new ≡ old)

  -- the parsed pairs represent these
  abbrev pub ArePairs : Text → Vec (Key × GivenAttr A) Global → List (Name ℕ × section.Item ℕ A) → Type 0
  ArePairs text read pairs = Each (IsPair text) read.items pairs

  -- the result is the list of pairs that comes next, or its fault
  abbrev pub MustPairs : (Text → Outcome (List (Name ℕ × section.Item ℕ A))) → StreamView → Result (Vec (Key × GivenAttr A) Global) (ParseFault A) → StreamView → Type 0
  MustPairs outcome old result new = MustMean itself replaced (ArePairs (whole old)) outcome old result new

  -- the result is the pairs in brackets that come next, of a block's entry or of an operation's, or the fault
  abbrev pub BracketedPairs : Reader A → Bool → StreamView → Result (Vec (Key × GivenAttr A) Global) (ParseFault A) → StreamView → Type 0
  BracketedPairs reading of_block old result new = MustPairs (pairs_at (attr_at reading) (rule_for of_block)) old result new

  -- given a first pair, the result is the list of pairs that continues it, or its fault
  abbrev pub PairsAfter : (Text → Outcome (Name ℕ × section.Item ℕ A)) → Key × GivenAttr A → StreamView → Result (Vec (Key × GivenAttr A) Global) (ParseFault A) → StreamView → Type 0
  PairsAfter item first old result new = (pair : Name ℕ × section.Item ℕ A) → IsPair (whole old) first pair → old.failed ≡ false
      → MustPairs (λ t. items_after 44 item (length t) (pair ∷ []) t) old result new
