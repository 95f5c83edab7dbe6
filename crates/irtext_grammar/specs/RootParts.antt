-- For callers: what the types of a context's parts ensure of every root. The laws of the round trip require this of a root besides being
-- closed.
use Rattle.std.specs.Prelude.{◌≡◌, ℕ, Bool, true, not, List, Some, ⊤}
use Rattle.std.specs.List.{list_all}
use Rattle.irtext_base.specs.Answers.{Outcome}
use Rattle.irtext_base.specs.Format.{Id, same_text, block_label_key}
use Rattle.irtext_base.specs.Locations.{AttrView}
use Rattle.irtext_base.specs.Text.{Text}
use Rattle.irtext_grammar.specs.Grammar.Forest.{AllRegions}
use Rattle.irtext_grammar.specs.Grammar.Tree.{Attribute}
use Rattle.irtext_grammar.specs.Graphs.Graph.{Graph, Printing}
use Rattle.irtext_grammar.specs.Graphs.Identifiers.{OpHasIdentifiers, BlockHasIdentifiers}
use Rattle.irtext_grammar.specs.Graphs.ReservedKeys.{GraphKeepsKeys}
use Rattle.irtext_grammar.specs.Graphs.RoundTrip.{GraphHeld}
use Rattle.irtext_grammar.specs.Graphs.Same.{SmallGraph}
use Rattle.irtext_grammar.specs.Graphs.Represents.{Distinct}
use Rattle.irtext_grammar.specs.Spelling.Spellable.{IsIdentifier}
use Rattle.irtext_grammar.specs.Promises.PrintedBack.{locations}
use Rattle.irtext_grammar.specs.Promises.Supported.{location_verdict}

-- the dictionary has no label
abbrev pub HasNoLabel : {A : Type 0} → List (Text × Attribute A) → Type 0
HasNoLabel es = list_all (λ e. not (same_text e.0 block_label_key)) es ≡ true

-- no block of the graph has a label in its dictionary
abbrev pub HoldsNoLabels : {T A : Type 0} → Graph T A → Type 0
HoldsNoLabels g = AllRegions (λ o. ⊤) (λ h. HasNoLabel h.attributes) (λ r. ⊤) g.regions

-- What the types of a context's parts ensure of a root: given names, labels of blocks, ids, keys and the names in attributes are
-- identifiers; numbers, places and generations are below 2 ^ 64; dictionaries follow the rule of the reserved keys, if no block's has a
-- label; locations are parsed back, and the keys of a dictionary are distinct; and values and blocks are distinct.
pub record KeptRoot {T A : Type 0} (attr : Text → Outcome (AttrView A)) (text_of : A → Text) (C : Printing T A) (isolated : Id → Bool) (g : Graph T A) : Type 0 where
  pub given : (v : ℕ) (n : Text) → C.given v ≡ Some n → IsIdentifier n
  pub label : (b : ℕ × ℕ) (n : Text) → C.label b ≡ Some n → IsIdentifier n
  pub own : OpHasIdentifiers C g.own
  pub inside : AllRegions (OpHasIdentifiers C) (BlockHasIdentifiers C) (λ r. ⊤) g.regions
  pub small : SmallGraph C isolated g
  pub keys : HoldsNoLabels g → GraphKeepsKeys g
  pub held : GraphHeld (location_verdict attr) (locations text_of) g
  pub distinct : Distinct C isolated g
