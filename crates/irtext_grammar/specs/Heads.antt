-- Between functions: what a text is to the parsers of an operation's own parts and of a block's header, without what is nested in them,
-- with the cause and place of each fault. A place is the number of characters from it to the end of the text.
use Rattle.std.specs.Prelude.{ℕ, Bool, true, false, cond, List, [], ◌∷◌, length, map, Option, Some, None, codes}
use Rattle.irtext_base.specs.Text.{Text, begins}
use Rattle.irtext_base.specs.Reading.{the}
use Rattle.irtext_base.specs.Format as format
use Rattle.irtext_base.specs.Format.{Format, Directive, Id}
use Rattle.irtext_base.specs.Faults.{Unexpected, AnOperation, NoActiveScope, ReservedKey}
use Rattle.irtext_base.specs.Stream.{first_of}
use Rattle.irtext_base.specs.Answers.{Outcome, Read, Missing, Bad, mapped}
use Rattle.irtext_base.specs.Locations.{AttrView}
use Rattle.irtext_context.specs.Dialects.{Table}
use Rattle.irtext_tokens.specs.Infix.{Reader, nothing, either, ◌▷◌, ◌◁◌, ◌▶◌, ◌⇒◌}
use Rattle.irtext_tokens.specs.ListOutcomes.{separated_at}
use Rattle.irtext_tokens.specs.Tokens.{space_at, word, identifier_at, id_at}
use Rattle.irtext_tokens.specs.Demanded.{spaced_at, index_at}
use Rattle.irtext_grammar.specs.Grammar.Tree as tree
use Rattle.irtext_grammar.specs.Grammar.Tree.{Name, Mark, Attribute, Piece, Head}
use Rattle.irtext_grammar.specs.Names.Acts.{may_hold}
use Rattle.irtext_grammar.specs.declared.parsed.Setting.{Setting}
use Rattle.irtext_grammar.specs.Readers.Directives.{attribute_at}
use Rattle.irtext_grammar.specs.Readers.Marker.{marker, starts_with}
use Rattle.irtext_grammar.specs.Readers.Operations.{registered_after}
use Rattle.irtext_grammar.specs.Readers.Parts.{after_lead}

-- whether it is inside of a region, and whether any attribute is accepted under a reserved key
abbrev pub setting : Bool → Bool → Setting
setting inside any_key = record { inside = inside; any_key = any_key }

-- what was parsed from a text, with the place of this text
abbrev pub placed : {X : Type 0} → (ℕ → X → Name ℕ) → Text → Outcome X → Outcome (Name ℕ)
placed name text o = mapped (name (length text)) o

-- a name at a place
abbrev pub name_of : ℕ → Text → Name ℕ
name_of place text = record { place = place; text = text }

-- a name
abbrev pub name_at : Reader (Name ℕ)
name_at text = placed name_of text (identifier_at text)

-- a block's label; its place is that of the `^`
abbrev pub label_at : Reader (Name ℕ)
label_at text = placed name_of text ((word (codes "^") ▷ identifier_at) text)

-- a symbol's name; its place is that of the `@`
abbrev pub symbol_at : Reader (Name ℕ)
symbol_at text = placed name_of text ((word (codes "@") ▷ identifier_at) text)

-- `!` and an index
abbrev pub mark_at : Reader (Mark ℕ)
mark_at text = mapped (λ i. record { place = length text; index = i }) (index_at text)

-- a mark if `!` comes next; otherwise none
abbrev pub mark_if_at : Reader (Option (Mark ℕ))
mark_if_at = either (begins (the 33)) (mark_at ⇒ Some) (nothing None)

-- a name where no scope is open: it is bad at its beginning
abbrev pub outside : Outcome (Name ℕ) → Outcome (Name ℕ)
outside (Read n taken rest) = Bad (NoActiveScope n.text) []
outside (Missing cause) = Missing cause
outside (Bad cause upto) = Bad cause upto

-- a name that is used, inside a region or outside of every region
abbrev pub used_at : Bool → Reader (Name ℕ)
used_at true text = name_at text
used_at false text = outside (name_at text)

-- `^` and a label that is used; its place is that of the name
abbrev pub target_at : Bool → Reader (Name ℕ)
target_at inside = word (codes "^") ▷ used_at inside

-- an attribute that is not allowed under its key, where dictionaries are tested as they are read: the key is bad at its beginning
abbrev pub allowed : {A : Type 0} → Outcome (Name ℕ × Attribute A) → Outcome (Name ℕ × Attribute A)
allowed (Read e taken rest) = cond (may_hold e.0.text e.1) (Read e taken rest) (Bad (ReservedKey e.0.text) [])
allowed (Missing cause) = Missing cause
allowed (Bad cause upto) = Bad cause upto

module _ {A : Type 0} (attr : Text → Outcome (AttrView A)) where
  -- a key, `:`, and an attribute
  abbrev pub pair_at : Reader (Name ℕ × Attribute A)
  pair_at = name_at ▶ λ key. spaced_at (codes ":") ▷ attribute_at attr ⇒ λ a. (key, a)

  -- the same, given whether any attribute is accepted under a reserved key, or it is tested whether it is allowed there
  abbrev pub entry_by : Bool → Reader (Name ℕ × Attribute A)
  entry_by true text = pair_at text
  entry_by false text = allowed (pair_at text)

  -- entries in brackets, with `,` between, given whether any attribute is accepted under a reserved key
  unfoldable pub dictionary_by : Bool → Reader (List (Name ℕ × Attribute A))
  dictionary_by any_key text = (word (codes "[") ▷ space_at ▷ separated_at 44 (entry_by any_key) ◁ word (codes "]")) text

  -- entries whose keys are not tested
  abbrev pub dictionary_at : Reader (List (Name ℕ × Attribute A))
  dictionary_at = dictionary_by true

  -- the marker of an outlined attribute, or an attribute
  abbrev pub outlined_or_at : Reader (Option (Attribute A))
  outlined_or_at = either (starts_with marker) (word marker ⇒ λ _. None) (attribute_at attr ⇒ Some)

-- One step of a format: a directive other than a region, a list of types, one region, or all that follow.
pub data Step : Type 0 where
  flat : Directive → Step
  types : Step
  one : ℕ → Step
  all : Step

-- the step of a directive
abbrev pub step_of : Directive → Step
step_of (format.region i) = one i
step_of format.regions = all
step_of d = flat d

-- the steps of the canonical form
abbrev pub canonical_steps : List Step
canonical_steps = flat (format.word (codes "(")) ∷ flat format.operands ∷ flat (format.word (codes ")")) ∷ flat (format.word (codes "["))
    ∷ flat format.successors ∷ flat (format.word (codes "]")) ∷ flat format.dictionary ∷ flat (format.word (codes ":"))
    ∷ flat (format.word (codes "<")) ∷ flat (format.word (codes "(")) ∷ types ∷ flat (format.word (codes ")"))
    ∷ flat (format.word (codes "->")) ∷ flat (format.word (codes "(")) ∷ types ∷ flat (format.word (codes ")"))
    ∷ flat (format.word (codes ">")) ∷ all ∷ []

-- the steps of a format
abbrev pub steps_of : Format → List Step
steps_of format.canonical = canonical_steps
steps_of (format.custom ds) = map step_of ds

-- the steps before the first region
abbrev pub front_steps : List Step → List Step
front_steps [] = []
front_steps (one i ∷ ss) = []
front_steps (all ∷ ss) = []
front_steps (s ∷ ss) = s ∷ front_steps ss

-- the steps from the first region on
abbrev pub region_steps : List Step → List Step
region_steps [] = []
region_steps (one i ∷ ss) = one i ∷ ss
region_steps (all ∷ ss) = all ∷ ss
region_steps (s ∷ ss) = region_steps ss

module _ {T A : Type 0} (types_at : Text → Outcome T) (attr : Text → Outcome (AttrView A)) where
  -- what a directive other than a region parses in this setting
  abbrev pub directive_at : Setting → Directive → Reader (Piece ℕ T A)
  directive_at at (format.word s) = word s ⇒ λ _. tree.word s
  directive_at at (format.operand i) = used_at at.inside ⇒ tree.operand i
  directive_at at format.operands = separated_at 44 (used_at at.inside) ⇒ tree.operands
  directive_at at (format.successor i) = target_at at.inside ⇒ tree.successor i
  directive_at at format.successors = separated_at 44 (target_at at.inside) ⇒ tree.successors
  directive_at at (format.attribute k) = outlined_or_at attr ⇒ tree.attribute k
  directive_at at format.dictionary = dictionary_by attr at.any_key ⇒ tree.dictionary
  directive_at at (format.result_type i) = types_at ⇒ tree.result_type i
  directive_at at format.header = symbol_at ⇒ tree.header
  directive_at at _ = λ text. Missing (Unexpected (first_of text) AnOperation)

  -- what a step other than a region parses
  abbrev pub piece_at : Setting → Step → Reader (Piece ℕ T A)
  piece_at at (flat d) = directive_at at d
  piece_at at types = separated_at 44 types_at ⇒ tree.types
  piece_at at _ = λ text. Missing (Unexpected (first_of text) AnOperation)

  -- an argument of a block
  abbrev pub argument_at : Reader (Name ℕ × T)
  argument_at = name_at ▶ λ n. spaced_at (codes ":") ▷ types_at ⇒ λ t. (n, t)

  -- a block's dictionary if `[` comes next; otherwise none
  abbrev pub dictionary_if_at : Reader (Option (List (Name ℕ × Attribute A)))
  dictionary_if_at = either (begins (the 91)) (dictionary_at attr ⇒ Some) (nothing None)

  -- a block's header, up to its `:`
  abbrev pub head_at : Reader (Head ℕ T A)
  head_at = label_at ▶ λ label. spaced_at (codes "(") ▷ separated_at 44 argument_at ▶ λ arguments. word (codes ")") ▷ space_at
      ▷ dictionary_if_at ▶ λ attributes. space_at ▷ mark_if_at ▶ λ mark. space_at ▷ word (codes ":")
      ⇒ λ _. record { label = label; arguments = arguments; attributes = attributes; mark = mark }

-- names with `,` between, and `=`
abbrev pub results_at : Reader (List (Name ℕ))
results_at = separated_at 44 name_at ◁ word (codes "=")

-- the names of results if a whole list of names and `=` comes next; otherwise none
abbrev pub named : Outcome (List (Name ℕ)) → Text → Outcome (List (Name ℕ))
named (Read ns taken rest) text = Read ns taken rest
named (Missing cause) text = Read [] [] text
named (Bad cause upto) text = Read [] [] text

-- what precedes an operation's id: white space, the names of its results, if there are any, and white space
abbrev pub lead_at : Reader (List (Name ℕ))
lead_at = space_at ▷ (λ text. named (results_at text) text) ◁ space_at

-- a lead that was parsed, and a registered operation's id after it
abbrev pub led_by : List (Text × Table) → Outcome (List (Name ℕ)) → Outcome (List (Name ℕ) × Id)
led_by dialects (Read ns lead rest) = mapped (λ id. (ns, id)) (registered_after dialects lead (after_lead lead (id_at rest)))
led_by dialects (Missing cause) = Missing cause
led_by dialects (Bad cause upto) = Bad cause upto

-- the names of an operation's results, and its id
abbrev pub led_at : List (Text × Table) → Reader (List (Name ℕ) × Id)
led_at dialects text = led_by dialects (lead_at text)
