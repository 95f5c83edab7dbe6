-- Between functions: the section after a root, parsed for its syntax alone: which indices, keys and references stand in it makes no
-- difference.
use Rattle.std.specs.Prelude.{◌≡◌, ℕ, zero, suc, Bool, true, false, codes, List, [], ◌∷◌, ◌++◌, length, Result, ⊤}
use Rattle.irtext_base.specs.Text.{Text, begins}
use Rattle.irtext_base.specs.Reading.{the}
use Rattle.irtext_base.specs.Answers.{Outcome, Read}
use Rattle.irtext_base.specs.Locations.{AttrView}
use Rattle.irtext_base.specs.Paths.{Written}
use Rattle.irtext_base.specs.Stream.{StreamView}
use Rattle.irtext_base.specs.declared.parsable.fault.ParseFault.{ParseFault}
use Rattle.irtext_tokens.specs.Demanded.{spaced_at}
use Rattle.irtext_tokens.specs.Infix.{Reader, nothing, either, ◌▷◌, ◌▶◌}
use Rattle.irtext_tokens.specs.ListOutcomes.{items_after}
use Rattle.irtext_tokens.specs.Tokens.{space_at}
use Rattle.irtext_grammar.specs.Contexts.Held.{whole}
use Rattle.irtext_grammar.specs.Entries.{kept, pair_at, entry_at}
use Rattle.irtext_grammar.specs.Grammar.Section.{Item, Entry}
use Rattle.irtext_grammar.specs.Grammar.Tree.{Name}
use Rattle.irtext_grammar.specs.Names.Acts.{Rule}
use Rattle.irtext_grammar.specs.Promises.Section.{Moves}
use Rattle.irtext_grammar.specs.Readers.Streams.{itself, replaced}
use Rattle.irtext_parse_pieces.specs.Named.{MayMean, MustMean}
use Rattle.irtext_survey.specs.Walk.{IsMissed}

-- any attribute is allowed under any key
abbrev pub any_rule : {A : Type 0} → Rule A
any_rule key a = true

-- any index is allowed
abbrev pub any_index : ℕ → Bool
any_index i = true

module _ {A : Type 0} (attr : Text → Outcome (AttrView A)) where
  -- a pair of an entry, whatever its key
  abbrev pub pair_in : Reader (Name ℕ × Item ℕ A)
  pair_in text = kept any_rule (pair_at attr text)

  -- an entry, whatever its index and its keys
  abbrev pub entry_in : Reader (Entry ℕ A (Written A))
  entry_in = entry_at attr any_index (λ i. any_rule)

  -- the entries so far and those after them, as long as `!` follows, with white space after each, and at most this many
  abbrev pub entries_in : ℕ → List (Entry ℕ A (Written A)) → Reader (List (Entry ℕ A (Written A)))
  entries_in zero found text = Read found [] text
  entries_in (suc n) found text = either (begins (the 33)) (entry_in ▶ λ e. space_at ▷ entries_in n (found ++ e ∷ [])) (nothing found) text

  -- the section: its first word, and all entries after it
  abbrev pub section_in : Reader (List (Entry ℕ A (Written A)))
  section_in = spaced_at (codes "outlined_attributes:") ▷ λ text. entries_in (length text) [] text

module _ {X A : Type 0} (reader : Reader X) (old : StreamView) (result : Result (Unit {0}) (ParseFault A)) (new : StreamView) where
  -- what the reader finds was passed; or it is missing or bad, and the fault says so
  abbrev pub MayPass : Type 0
  MayPass = MayMean {Y = Unit {0}} itself replaced (λ done x. ⊤) reader old result new

  -- the same of what is required: if it is missing, the fault is committed
  abbrev pub MustPass : Type 0
  MustPass = MustMean {Y = Unit {0}} itself replaced (λ done x. ⊤) reader old result new

-- after a first item, all items that follow in the list were passed, or one of them is missing or bad
abbrev pub PassesMore : {X A : Type 0} → Reader X → StreamView → Result (Unit {0}) (ParseFault A) → StreamView → Type 0
PassesMore {X} item old result new = (first : X) → old.failed ≡ false → MustPass (λ t. items_after 44 item (length t) (first ∷ []) t) old result new

module _ {A : Type 0} (attr : Text → Outcome (AttrView A)) where
  -- the section was passed, or its syntax is at fault
  abbrev pub SkipsSection : StreamView → Bool → StreamView → Type 0
  SkipsSection old true new = (entries : List (Entry ℕ A (Written A))) × (taken : Text) × (section_in attr old.rest ≡ Read entries taken new.rest) × Moves old new
  SkipsSection old false new = IsMissed (section_in attr old.rest) × (whole new ≡ whole old)
