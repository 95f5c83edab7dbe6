-- Between functions: what the parsed dictionaries represent.
use Rattle.std.specs.Prelude.{◌≡◌, ℕ, Bool, true, false, IfSome, List, [], ◌∷◌, length, Option, Some, None, Result, Ok, Err, Vec}
use Rattle.std.specs.Char.{is_whitespace}
use Rattle.std.specs.Global.{Global}
use Rattle.std.specs.List.{list_all}
use Rattle.irtext_base.specs.Text.{Text, begins, in_word}
use Rattle.irtext_base.specs.Reading.{the}
use Rattle.irtext_base.specs.Faults.{ReservedKey}
use Rattle.irtext_base.specs.Stream.{StreamView}
use Rattle.irtext_base.specs.Answers.{Outcome, Takes}
use Rattle.irtext_base.specs.Locations.{AttrView}
use Rattle.irtext_base.specs.declared.base.attributes.AttrObj.{AttrObj}
use Rattle.irtext_base.specs.declared.parsable.fault.ParseFault.{ParseFault}
use Rattle.irtext_stream.specs.declared.position.Place.{Place}
use Rattle.irtext_tokens.specs.AttrTexts.{attr_at}
use Rattle.irtext_tokens.specs.Infix.{Reader, nothing, either, ◌⇒◌}
use Rattle.irtext_tokens.specs.ListOutcomes.{items_after}
use Rattle.irtext_tokens.specs.Reads.{TakesFront}
use Rattle.irtext_grammar.specs.Contexts.Held.{attribute_of}
use Rattle.irtext_grammar.specs.Grammar.Tree.{Name, Attribute}
use Rattle.irtext_grammar.specs.Names.Acts.{may_hold}
use Rattle.irtext_grammar.specs.Heads.{dictionary_at, dictionary_by}
use Rattle.irtext_grammar.specs.Readers.Operations.{RefusesAt}
use Rattle.irtext_grammar.specs.declared.parsed.Key.{Key}
use Rattle.irtext_parse_pieces.specs.Named.{whole, MustMean}
use Rattle.irtext_grammar.specs.Parsed.{Optional, IsEntry, AreEntries}

-- Characters of a word were consumed, or nothing. If there is a key, it is these, and no character of a word follows.
pub record TakesWord {S : Type 0} (view : S → StreamView) (at : S → StreamView → S) (old : S) (key : Option Text) (new : S) : Type 0 where
  pub word : Text
  pub in_words : list_all in_word word ≡ true
  pub takes : Takes view at word (view new).rest old new
  pub ends : IfSome key (λ k. (k ≡ word) × (begins in_word (view new).rest ≡ false))

-- a dictionary if `[` comes next; otherwise none
abbrev pub dictionary_if : {A : Type 0} → (Text → Outcome (AttrView A)) → Reader (Option (List (Name ℕ × Attribute A)))
dictionary_if attr = either (begins (the 91)) (dictionary_at attr ⇒ Some) (nothing None)

module _ {S A : Type 0} (view : S → StreamView) (at : S → StreamView → S) where
  -- The result is the same if the attribute is allowed under its key; otherwise the key is reserved, and the fault is at this place.
  abbrev pub Allows : Place → Result (Key × AttrObj A) (ParseFault A) → S → Result (Key × AttrObj A) (ParseFault A) → S → Type 0
  Allows place (Ok p) old (Ok q) new = (may_hold p.0.name (attribute_of p.1) ≡ true) × (q ≡ p) × (new ≡ old)
  Allows place (Ok p) old (Err fault) new = (may_hold p.0.name (attribute_of p.1) ≡ false) × RefusesAt view at (ReservedKey p.0.name) place old fault new
  Allows place (Err first) old (Ok q) new = ⊥
  Allows place (Err first) old (Err fault) new = (fault ≡ first) × (new ≡ old)

  -- the result is the list of entries that comes next, or its fault
  abbrev pub MustEntries : (Text → Outcome (List (Name ℕ × Attribute A))) → S → Result (Vec (Key × AttrObj A) Global) (ParseFault A) → S → Type 0
  MustEntries outcome old result new = MustMean view at (AreEntries (whole (view old))) outcome old result new

  -- the result is the dictionary that comes next, or its fault, where attributes are parsed by this reading; given whether any attribute
  -- is accepted under a reserved key
  abbrev pub MustDictionary : (Text → Outcome A) → Bool → S → Result (Vec (Key × AttrObj A) Global) (ParseFault A) → S → Type 0
  MustDictionary reading any_key old result new = MustEntries (dictionary_by (attr_at reading) any_key) old result new

  -- given a first entry, the result is the list of entries that continues it, or its fault
  abbrev pub EntriesAfter : (Text → Outcome (Name ℕ × Attribute A)) → Key × AttrObj A → S → Result (Vec (Key × AttrObj A) Global) (ParseFault A) → S → Type 0
  EntriesAfter item first old result new = (entry : Name ℕ × Attribute A) → IsEntry (whole (view old)) first entry → (view old).failed ≡ false
      → MustEntries (λ t. items_after 44 item (length t) (entry ∷ []) t) old result new

  -- the result is the dictionary that comes next, or none, or its fault
  abbrev pub MustDictionaryIf : (Text → Outcome (AttrView A)) → S → Result (Option (Vec (Key × AttrObj A) Global)) (ParseFault A) → S → Type 0
  MustDictionaryIf attr old result new = MustMean view at (Optional (AreEntries (whole (view old)))) (dictionary_if attr) old result new

  -- white space was consumed, and then the result is as above
  pub record SpacedDictionaryIf (attr : Text → Outcome (AttrView A)) (old : S) (result : Result (Option (Vec (Key × AttrObj A) Global)) (ParseFault A)) (new : S) : Type 0 where
    pub mid : S
    pub space : TakesFront view at is_whitespace old mid
    pub read : MustDictionaryIf attr mid result new
