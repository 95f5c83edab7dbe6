-- For callers: what a text is to the parser of the section after a root, with the cause and place of each fault. A place is the number of
-- characters from it to the end of the text. An item is an operation or a block that carries a mark.
use Rattle.std.specs.Prelude.{ℕ, zero, suc, ◌-◌, Bool, true, cond, not, ◌&&◌, ◌||◌, Option, Some, None, List, [], ◌∷◌, ◌++◌, length, take, flat_map, codes}
use Rattle.irtext_base.specs.Text.{Text, begins}
use Rattle.irtext_base.specs.Reading.{the}
use Rattle.irtext_base.specs.Format.{same_text}
use Rattle.irtext_base.specs.Faults as fault
use Rattle.irtext_base.specs.Faults.{Fault}
use Rattle.irtext_base.specs.Answers.{Outcome, Read, Missing, Bad}
use Rattle.irtext_base.specs.Locations.{AttrView}
use Rattle.irtext_base.specs.Paths.{Written}
use Rattle.irtext_tokens.specs.Infix.{Reader, nothing, either, ◌▷◌, ◌◁◌, ◌▶◌, ◌⇒◌}
use Rattle.irtext_tokens.specs.ListOutcomes.{separated_at}
use Rattle.irtext_tokens.specs.Tokens.{space_at, word}
use Rattle.irtext_tokens.specs.Demanded.{spaced_at}
use Rattle.irtext_grammar.specs.Grammar.Tree.{Name, Mark}
use Rattle.irtext_grammar.specs.Grammar.Section.{Item, direct, reference, Entry, of_item, of_once}
use Rattle.irtext_grammar.specs.Names.Acts.{Rule, late_acts}
use Rattle.irtext_grammar.specs.Names.Resolves.{indices}
use Rattle.irtext_grammar.specs.Names.Scopes.{is_among, no_scope, failures}
use Rattle.irtext_grammar.specs.Names.Script as script
use Rattle.irtext_grammar.specs.Names.Script.{Cause, Failure, does_all, done}
use Rattle.irtext_grammar.specs.Readers.Directives.{attribute_at}
use Rattle.irtext_grammar.specs.Readers.Section.{entry_location_at}
use Rattle.irtext_grammar.specs.Heads.{name_at, mark_at}

module _ {A : Type 0} (attr : Text → Outcome (AttrView A)) where
  -- what an entry gives under a key: an attribute, or `!` and the index of a print-once attribute
  abbrev pub item_at : Reader (Item ℕ A)
  item_at = either (begins (the 33)) (mark_at ⇒ reference) (attribute_at attr ⇒ direct)

  -- a key, `=`, and what the entry gives under it
  abbrev pub pair_at : Reader (Name ℕ × Item ℕ A)
  pair_at = name_at ▶ λ key. spaced_at (codes "=") ▷ item_at ⇒ λ i. (key, i)

-- an attribute in an entry is allowed under its key; a reference is tested later
abbrev pub is_allowed : {A : Type 0} → Rule A → Name ℕ × Item ℕ A → Bool
is_allowed rule (n, direct a) = rule n.text a
is_allowed rule (n, reference m) = true

-- a key whose attribute is not allowed under it is bad at its beginning
abbrev pub kept : {A : Type 0} → Rule A → Outcome (Name ℕ × Item ℕ A) → Outcome (Name ℕ × Item ℕ A)
kept rule (Read p taken rest) = cond (is_allowed rule p) (Read p taken rest) (Bad (fault.ReservedKey p.0.text) [])
kept rule (Missing cause) = Missing cause
kept rule (Bad cause upto) = Bad cause upto

-- the entry goes on as that of an item, not of a print-once attribute: with `@` or `[`
abbrev pub begins_given : Text → Bool
begins_given = begins (λ c. the 64 c || the 91 c)

-- an index of an item's entry that does not pass the test is unknown, and bad at its beginning
abbrev pub tested : (ℕ → Bool) → Outcome (Mark ℕ) → Outcome (Mark ℕ)
tested test (Read m taken rest) = cond (begins_given rest && not (test m.index)) (Bad (fault.UnknownIndex m.index) []) (Read m taken rest)
tested test (Missing cause) = Missing cause
tested test (Bad cause upto) = Bad cause upto

-- an index, and `=` with white space around it
abbrev pub entry_head_at : Reader (Mark ℕ)
entry_head_at = mark_at ◁ spaced_at (codes "=")

module _ {A : Type 0} (attr : Text → Outcome (AttrView A)) where
  -- the pairs of an item's entry, in brackets and with `,` between, whose attributes are allowed by the rule
  unfoldable pub pairs_at : Rule A → Reader (List (Name ℕ × Item ℕ A))
  pairs_at rule text = (word (codes "[") ▷ space_at ▷ separated_at 44 (λ t. kept rule (pair_at attr t)) ◁ word (codes "]")) text

  -- what an item's entry gives: a location if `@` comes next, and its pairs
  abbrev pub given_at : Rule A → Reader (Option (Written A) × List (Name ℕ × Item ℕ A))
  given_at rule = entry_location_at attr ▶ λ l. pairs_at rule ⇒ λ ps. (l, ps)

  -- an entry: of an item, whose index passes the test, and whose attributes are allowed by the rule of that index; or of a print-once
  -- attribute
  abbrev pub entry_at : (ℕ → Bool) → (ℕ → Rule A) → Reader (Entry ℕ A (Written A))
  entry_at test rules = (λ text. tested test (entry_head_at text)) ▶ λ m. either begins_given (given_at (rules m.index) ⇒ λ g. of_item m g.0 g.1) (attribute_at attr ⇒ of_once m)

-- an entry may have the index of a mark that no earlier entry has
abbrev pub may_have : {A X : Type 0} → List ℕ → List (Entry ℕ A X) → ℕ → Bool
may_have marks earlier i = is_among i marks && not (is_among i (indices earlier))

-- the cause that parsers return for this failure
abbrev pub fault_for : Cause Text → Fault
fault_for (script.ResultCount types names) = fault.ResultCount types names
fault_for (script.NoActiveScope n) = fault.NoActiveScope n
fault_for (script.UnresolvedReference n) = fault.Unresolved n
fault_for (script.MultipleDefinitions n) = fault.MultipleDefinitions n
fault_for script.NotIsolated = fault.NotIsolated
fault_for (script.DuplicateIndex i) = fault.DuplicateIndex i
fault_for (script.UnknownIndex i) = fault.UnknownIndex i
fault_for (script.UnknownPrintOnce i) = fault.UnknownPrintOnce i
fault_for (script.ReservedKey k) = fault.ReservedKey k

-- the characters of a text up to a place, or none if there is no place
abbrev pub upto : Text → Option ℕ → Text
upto text None = []
upto text (Some place) = take (length text - place) text

-- the failures of the references of entries, in the order of the text
abbrev pub wrong_references : {A X : Type 0} → (ℕ → Rule A) → List (Entry ℕ A X) → List (Failure Text ℕ)
wrong_references rules es = failures same_text no_scope (does_all (flat_map (late_acts rules es) es) done)

-- the outcome of a text if there is no failure; otherwise the text is bad at the first one
abbrev pub unless_wrong : {X : Type 0} → Text → List (Failure Text ℕ) → Outcome X → Outcome X
unless_wrong text [] o = o
unless_wrong text (f ∷ fs) o = Bad (fault_for f.cause) (upto text f.at)

-- entries that were parsed from a text, unless one of their references fails
abbrev pub referred : {A X : Type 0} → (ℕ → Rule A) → Text → Outcome (List (Entry ℕ A X)) → Outcome (List (Entry ℕ A X))
referred rules text (Read es taken rest) = unless_wrong text (wrong_references rules es) (Read es taken rest)
referred rules text (Missing cause) = Missing cause
referred rules text (Bad cause upto) = Bad cause upto

module _ {A : Type 0} (attr : Text → Outcome (AttrView A)) (marks : List ℕ) (rules : ℕ → Rule A) where
  -- the entries so far and those after them, as long as `!` follows, with white space after each, and at most this many
  abbrev pub entries_after : ℕ → List (Entry ℕ A (Written A)) → Reader (List (Entry ℕ A (Written A)))
  entries_after zero earlier text = Read earlier [] text
  entries_after (suc n) earlier text =
      either (begins (the 33)) (entry_at attr (may_have marks earlier) rules ▶ λ e. space_at ▷ entries_after n (earlier ++ e ∷ [])) (nothing earlier) text

  -- the section's first word, and all entries after it
  abbrev pub entries_at : Reader (List (Entry ℕ A (Written A)))
  entries_at = spaced_at (codes "outlined_attributes:") ▷ λ text. entries_after (length text) [] text

  -- the section after a root with these marks, by these rules for the entry of each
  abbrev pub section_at : Reader (List (Entry ℕ A (Written A)))
  section_at text = referred rules text (entries_at text)
