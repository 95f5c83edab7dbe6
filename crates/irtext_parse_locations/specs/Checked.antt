-- Between functions: what is wrong with the references of the parsed entries, and the result of their check.
use Rattle.std.specs.Prelude.{◌≡◌, ◌⊎◌, ℕ, Bool, cond, List, [], ◌∷◌, Option, Some, None, Result, Ok, Err, flat_map, nat_eq, ⊤}
use Rattle.std.specs.Map.{lookup}
use Rattle.irtext_base.specs.Text.{Text}
use Rattle.irtext_base.specs.Stream.{StreamView}
use Rattle.irtext_base.specs.Answers.{RunsOutHere}
use Rattle.irtext_base.specs.declared.base.attributes.AttrObj.{AttrObj}
use Rattle.irtext_base.specs.declared.parsable.fault.ParseFault.{ParseFault}
use Rattle.irtext_stream.specs.declared.position.Place.{Place}
use Rattle.irtext_grammar.specs.Contexts.Held.{attribute_of}
use Rattle.irtext_grammar.specs.Names.Script.{Cause, UnknownPrintOnce, ReservedKey}
use Rattle.irtext_grammar.specs.Readers.Operations.{RefusesAt}
use Rattle.irtext_grammar.specs.Readers.Streams.{itself, replaced}
use Rattle.irtext_grammar.specs.declared.parsed.Key.{Key}
use Rattle.irtext_grammar.specs.Entries.{fault_for}
use Rattle.irtext_parse_locations.specs.Rules.{rule_for, is_block}
use Rattle.irtext_parse_locations.specs.declared.said.GivenAttr.{GivenAttr}
use Rattle.irtext_parse_locations.specs.declared.said.GivenAttr.TheVariants as given
use Rattle.irtext_parse_locations.specs.declared.said.ItemEntry.{ItemEntry}

-- what is wrong, and where
pub record Wrong : Type 0 where
  pub cause : Cause Text
  pub at : Place

module _ {A : Type 0} where
  -- what is wrong with a reference under a key, if this is the attribute that it refers to
  abbrev pub reference_wrong : Bool → Key → ℕ → Place → Option (AttrObj A) → List Wrong
  reference_wrong of_block key i at None = record { cause = UnknownPrintOnce i; at = at } ∷ []
  reference_wrong of_block key i at (Some a) = cond (rule_for of_block key.name (attribute_of a)) [] (record { cause = ReservedKey key.name; at = key.at } ∷ [])

  -- what is wrong with a pair of the entry of a block, or of an operation, after the last entry
  abbrev pub pair_wrong : List (ℕ × AttrObj A) → Bool → Key × GivenAttr A → List Wrong
  pair_wrong once of_block (key, given.Direct a) = []
  pair_wrong once of_block (key, given.Reference m) = reference_wrong of_block key m.index m.at (lookup (nat_eq m.index) once)

  -- what is wrong with pairs, one after another
  abbrev pub pairs_wrong : List (ℕ × AttrObj A) → Bool → List (Key × GivenAttr A) → List Wrong
  pairs_wrong once of_block pairs = flat_map (pair_wrong once of_block) pairs

  -- what is wrong with entries, one after another
  abbrev pub items_wrong : List (ℕ × AttrObj A) → List (ItemEntry A) → List Wrong
  items_wrong once items = flat_map (λ e. pairs_wrong once (is_block e.item) e.pairs.items) items

  -- an allocation failed, or the key is reserved, and the fault is at the key
  abbrev pub ReservesAt : Key → StreamView → ParseFault A → StreamView → Type 0
  ReservesAt key old fault new = RunsOutHere itself replaced old fault new ⊎ RefusesAt itself replaced (fault_for (ReservedKey key.name)) key.at old fault new

  -- an allocation failed, or the fault is the first of these
  abbrev pub RefusesFirst : List Wrong → StreamView → ParseFault A → StreamView → Type 0
  RefusesFirst [] old fault new = ⊥
  RefusesFirst (w ∷ ws) old fault new = RunsOutHere itself replaced old fault new ⊎ RefusesAt itself replaced (fault_for w.cause) w.at old fault new

  -- nothing is wrong, and the stream is unchanged; or the fault is the first of these, unless an allocation failed
  abbrev pub Checks : List Wrong → StreamView → Result ⊤ (ParseFault A) → StreamView → Type 0
  Checks ws old (Ok _) new = (ws ≡ []) × (new ≡ old)
  Checks ws old (Err fault) new = RefusesFirst ws old fault new
